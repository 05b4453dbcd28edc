use mir.Val.{SFits}
use Rattle.std.proofs.Common.{◌≡◌, ℕ, ◌<◌, ◌^◌, ℤ, sym, subst, arith, w32, w64, to_z, of_z}
use Rattle.std.specs.Prelude.{Result, Ok, Err, IfSome}
use Rattle.std.specs.Result.{OkIff, result_ok}
use Rattle.cap_machine.specs.Integers.{extended}
use Rattle.rv_select.specs.Written.{IsConstant}
use Rattle.rv_emit.proofs.WordNumbers.{number_bits}
use Rattle.rv_select.proofs.numbers.constant.Goals as goal

if_narrow : {E : Type 0} (r : Result ℤ E) (value : ℕ) (z : ℤ) → value < 2 ^ 64 → z ≡ to_z w64 value
    → OkIff r (SFits w32 (to_z w64 (of_z w64 z))) (to_z w64 (of_z w64 z))
    → IfSome (result_ok r) (λ v. value ≡ extended v)
if_narrow (Ok x) value z lt e h = sym (number_bits x z value (subst (SFits w32) (sym h.1) h.0) lt h.1 e)
if_narrow (Err d) value z lt e h = tt

pub returns-in-Const : goal.returns-in-Const
returns-in-Const c =
    let t = c.in-Const in
    let lt : t.value < 2 ^ 64 = omega arith in
    subst (λ i. IfSome c.ok.result (λ v. IsConstant (extended v) i)) (sym t.is)
    (subst (λ o. IfSome o (λ v. t.value ≡ extended v)) (sym c.ok.ensures.value)
    (if_narrow c.try_from.result t.value c.cast_signed.result lt c.cast_signed.ensures c.try_from.ensures))
