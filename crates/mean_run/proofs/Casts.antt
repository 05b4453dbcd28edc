-- Offsets as 64 bits.
use Rattle.std.proofs.Common.{◌≡◌, ℕ, ◌<◌, ◌^◌, arith, sym, ◌∙◌}
use Rattle.std.specs.Prelude.{ℤ, pos, negsuc}
use Rattle.std.specs.Int.{w64, cast_unsigned, cast_signed}
use Rattle.std.specs.Int.RustNames.{FitsSigned}
use Rattle.std.proofs.lemmas.Int.{ints, of_z-to_z}
use Rattle.ck_int.specs.Kinds.{kept_of}

-- what a cast keeps
pub kept_is : (z : ℤ) → FitsSigned w64 z → cast_unsigned w64 z ≡ kept_of z
unfolding kept_of
kept_is (pos n) h = omega (arith, ints, h)
kept_is (negsuc n) h = omega (arith, ints, h)

-- and what a cast back keeps
pub signed_is : (n : ℕ) → n < 2 ^ 64 → FitsSigned w64 (cast_signed w64 n) → kept_of (cast_signed w64 n) ≡ n
signed_is n h fits = sym (kept_is (cast_signed w64 n) fits) ∙ of_z-to_z w64 n h
