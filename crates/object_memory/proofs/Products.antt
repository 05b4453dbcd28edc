-- Products and quotients in 128 bits.
use Rattle.std.proofs.Common.{◌≡◌, ℕ, zero, suc, ◌/◌, ◌^◌, ◌≤◌, ℤ, pos, negsuc, neg_ℤ, arith, refl}
use Rattle.std.specs.Prelude.{int_div}
use Rattle.std.proofs.Math.Nat.{div-le_self}
use Rattle.std.specs.Int.{w128}
use Rattle.std.specs.Int.RustNames.{FitsSigned}
use Rattle.std.proofs.lemmas.Int.{ints}
use Rattle.ck_int.specs.declared.kinds.IntKind.{IntKind}
use Rattle.ck_int.specs.declared.kinds.IntKind.TheVariants as kind
use Rattle.ck_int.specs.Kinds.{form_of, is_signed}
use Rattle.cheri_c_sem.specs.Modes.{overflows}
use Rattle.object_memory.specs.Integers.{IsWord}

-- a number that 128 bits don't have is one of no signed kind
pub wide_overflows : (k : IntKind) (z : ℤ) → (FitsSigned w128 z → ⊥) → is_signed (form_of k) ≡ overflows k z
wide_overflows kind.Bool z h = refl
wide_overflows kind.U8 z h = refl
wide_overflows kind.U16 z h = refl
wide_overflows kind.U32 z h = refl
wide_overflows kind.U64 z h = refl
wide_overflows kind.I8 z h = grind (arith, ints, h)
wide_overflows kind.I16 z h = grind (arith, ints, h)
wide_overflows kind.I32 z h = grind (arith, ints, h)
wide_overflows kind.I64 z h = grind (arith, ints, h)

negated_fits : (m : ℕ) → m ≤ 2 ^ 64 → FitsSigned w128 (neg_ℤ (pos m))
negated_fits zero h = omega (arith, ints)
negated_fits (suc m) h = omega (arith, ints, h)

kept_fits : (m : ℕ) → m ≤ 2 ^ 64 → FitsSigned w128 (pos m)
kept_fits m h = omega (arith, ints, h)

-- a quotient is no greater than its dividend
pub quotient_fits : (x y : ℤ) → IsWord x → FitsSigned w128 (int_div x y)
quotient_fits (pos a) (pos b) w = let h = w.high in kept_fits (a / b) (omega (arith, ints, h, div-le_self a b))
quotient_fits (pos a) (negsuc b) w =
    let h = w.high in negated_fits (a / suc b) (omega (arith, ints, h, div-le_self a (suc b)))
quotient_fits (negsuc a) (pos b) w =
    let h = w.low in negated_fits (suc a / b) (omega (arith, ints, h, div-le_self (suc a) b))
quotient_fits (negsuc a) (negsuc b) w =
    let h = w.low in kept_fits (suc a / suc b) (omega (arith, ints, h, div-le_self (suc a) (suc b)))
