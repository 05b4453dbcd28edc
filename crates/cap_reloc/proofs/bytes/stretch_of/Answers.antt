use Rattle.std.proofs.Common.{◌≡◌, ◌+◌, ◌-◌, ◌*◌, ◌/◌, map, subst, arith}
use Rattle.cap_concentrate.specs.Rounding.{rounded_up}
use Rattle.cap_reloc.specs.Initial.{highest}
use Rattle.cap_reloc.specs.Pointers.{no_pointer, extent_of}
use Rattle.cap_reloc.proofs.Contents.{lowest_more, highest_more, lowest_none, highest_none}
use Rattle.cap_reloc.proofs.bytes.stretch_of.Goals as goal

pub loop-c-preserved : goal.loop-c-preserved
loop-c-preserved c =
    let low = lowest_more c.loop-c.base c.args.objects.now c.loop-c.c-index no_pointer c.loop-c-test.true in
    let high = highest_more c.loop-c.end c.args.objects.now c.loop-c.c-index no_pointer c.loop-c-test.true in
    let most = c.requires.objects c.loop-c.c-index no_pointer c.loop-c-test.true in
    record { low = cc; high = cc; ordered = omega arith; most = omega arith }

pub returns-clause-from : goal.returns-clause-from
returns-clause-from c = let low = lowest_none c.loop-c.base c.args.objects.now c.loop-c.c-index c.loop-c-test.false in
    cc

pub returns-clause-to : goal.returns-clause-to
returns-clause-to c =
    let high = highest_none c.loop-c.end c.args.objects.now c.loop-c.c-index c.loop-c-test.false in
    let end : c.loop-c.end ≡ highest (c.args.table.0 + c.args.table.1) (map extent_of c.args.objects.now) = cc in
    subst (λ v. c.loop-c.base + ((c.loop-c.end + 15) / 16 * 16 - c.loop-c.base) ≡ rounded_up v 16) end (omega arith)
