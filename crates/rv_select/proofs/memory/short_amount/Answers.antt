use mir.Val.{SFits}
use Rattle.std.proofs.Common.{◌^◌, ◌<◌, ℤ, w32, rules, subst, sym}
use Rattle.std.proofs.lemmas.Int.{to_z-of_z}
use Rattle.tac_ir.specs.declared.code.Amount.{Amount}
use Rattle.rv_select.specs.Choosing.{chosen}
use Rattle.rv_select.specs.Work.{IsAmount}
use Rattle.rv_emit.proofs.WordNumbers.{number_bits}
use Rattle.rv_select.proofs.memory.short_amount.Goals as goal

pub returns-in-Ok-clause-is : goal.returns-in-Ok-clause-is
returns-in-Ok-clause-is c =
    let s = chosen c.args.f.now in
    let v = c.in-Ok.v in
    let n = c.in-Number.n in
    let small : n < 2 ^ 64 = search rules in
    let fits : SFits w32 v = search rules in
    subst (λ (z : ℤ). IsAmount s c.args.by z) (sym (to_z-of_z w32 v fits))
    (subst (λ (b : Amount). IsAmount s b v) (sym c.in-Number.is)
    (number_bits v c.cast_signed.result n fits small c.in-Ok.ensures.1 c.cast_signed.ensures))
