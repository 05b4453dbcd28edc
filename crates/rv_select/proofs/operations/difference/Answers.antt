use mir.Val.{SFits}
use Rattle.std.proofs.Common.{ℤ, pos, ◌-ℤ◌, w32, to_z, of_z, rules, refl, ap, ◌∙◌}
use Rattle.std.proofs.lemmas.Int.{to_z-of_z}
use Rattle.cap_machine.specs.Integers.{extended}
use Rattle.rv_instr.specs.declared.ops.ImmOp.{ImmOp}
use Rattle.select_words.specs.Operations.{add_op}
use Rattle.rv_select.specs.declared.operations.Work.TheVariants.{Immediate}
use Rattle.rv_select.specs.Planning.{LessNumber}
use Rattle.rv_select.proofs.Planned.{negative_fits, to_nothing}
use Rattle.rv_select.proofs.operations.difference.Goals as goal

pub returns-in-Some-clause-is : goal.returns-in-Some-clause-is
returns-in-Some-clause-is c =
    let v = c.in-Some.v in
    let fits : SFits w32 v = search rules in
    let h = c.in-Some.ensures.fits in
    let same = ap (λ (z : ℤ). to_z w32 (of_z w32 (pos 0 -ℤ z))) (to_z-of_z w32 v fits)
    ∙ to_z-of_z w32 (pos 0 -ℤ v) (negative_fits v h) in
    LessNumber (extended v) (pos 0 -ℤ v) refl c.in-Some.ensures.is (to_nothing v h)
    (ap (λ (i : ImmOp). Immediate i c.args.a (to_z w32 (of_z w32 (pos 0 -ℤ to_z w32 (of_z w32 v))))) c.add_op.ensures
    ∙ ap (Immediate (add_op c.args.kind) c.args.a) same)
