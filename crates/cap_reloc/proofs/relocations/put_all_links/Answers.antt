use Rattle.std.proofs.Common.{◌≡◌, length}
use Rattle.cap_reloc.specs.Pointers.{link_relocs}
use Rattle.cap_reloc.proofs.Rows.{pairs_more, zip_all}
use Rattle.cap_reloc.proofs.relocations.put_all_links.Goals as goal

pub loop-k-preserved : goal.loop-k-preserved
loop-k-preserved c =
    let bases : length c.as_slice-bases.result.now ≡ length c.as_slice-globals.result.now = cc in
    let put = c.in_ok-put_links.ensures in
    let more = pairs_more (link_relocs c.args.p.now c.args.pointers.now) c.args.relocs.now.items
    c.as_slice-globals.result.now c.as_slice-bases.result.now c.loop-k.k c.index-globals-k.result
    c.loop-k-test.true bases in
    cc

pub returns : goal.returns
returns c =
    let all = zip_all c.as_slice-globals.result.now c.as_slice-bases.result.now c.loop-k.k c.loop-k-test.false in
    cc
