-- Numbers that fit 64 bits.
use Rattle.std.proofs.Common.{◌≡◌, arith}
use Rattle.std.specs.Prelude.{ℤ, pos, negsuc}
use Rattle.std.specs.Int.{w64, cast_unsigned}
use Rattle.std.specs.Int.RustNames.{FitsSigned}
use Rattle.std.proofs.lemmas.Int.{ints}
use Rattle.ck_int.specs.Kinds.{kept_of}

-- what a cast keeps
pub kept_is : (z : ℤ) → FitsSigned w64 z → cast_unsigned w64 z ≡ kept_of z
unfolding kept_of
kept_is (pos n) h = omega (arith, ints, h)
kept_is (negsuc n) h = omega (arith, ints, h)
