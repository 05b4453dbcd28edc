use Rattle.std.proofs.Common.{sym, arith}
use Rattle.image_load.proofs.Walk.{at_some}
use Rattle.std.proofs.Common.{◌≡◌, ◌∙◌}
use Rattle.image_load.specs.Contained.{text_in}
use Rattle.elf_audit.specs.Rules.{reloc_reason}
use Rattle.elf_audit.proofs.Noted.{one_more, all_walked}
use Rattle.elf_audit.proofs.finding.first_reloc.Goals as goal

pub loop-r-smaller : goal.loop-r-smaller
loop-r-smaller c = let h = (at_some c.args.view.now.relocs c.loop-r.k c.in-Some.r (sym c.in-Some.ensures.value)).1 in
    omega (arith, h)

pub loop-r-preserved : goal.loop-r-preserved
loop-r-preserved c =
    one_more (λ r. reloc_reason (text_in c.args.view.now) r ≡ 0) c.args.view.now.relocs c.loop-r.k c.in-Some.r
    (sym c.in-Some.ensures.value)
    (sym c.reloc_reason-reason.ensures ∙ c.if-reason-ne0.false) c.loop-r.invariant

pub returns : goal.returns
returns c = all_walked (λ r. reloc_reason (text_in c.args.view.now) r ≡ 0) c.args.view.now.relocs c.loop-r.k
    (sym c.in_default.ensures.value) c.loop-r.invariant
