use Rattle.cap_reloc.specs.Pointers.{no_pointer}
use Rattle.cap_reloc.proofs.Rows.{entries_none, entries_more}
use Rattle.cap_reloc.proofs.relocations.put_entries.Goals as goal

pub loop-k-init : goal.loop-k-init
loop-k-init c = entries_none c.args.relocs.now.items c.args.table

pub loop-k-preserved : goal.loop-k-preserved
loop-k-preserved c =
    let pushed = c.in_ok-push.ensures.items in
    let more = entries_more c.args.relocs.now.items c.args.table c.args.pointers.now c.loop-k.k no_pointer
    c.loop-k-test.true in
    cc
