-- A number of 32 bits, as a register's 64 bits.
use mir.Val.{SFits}
use Rattle.std.proofs.Common.{◌≡◌, ◌-◌, ◌%◌, ◌^◌, ◌<◌, ◌≤◌, ℕ, ℤ, pos, negsuc, Bool, true, false, refl, ap, sym, ◌∙◌}
use Rattle.std.proofs.Common.{arith}
use Rattle.std.proofs.Common.{w32, w64, to_z, of_z, nat_lt}
use Rattle.std.specs.Prelude.{nat_le, ◌||◌}
use Rattle.std.proofs.lemmas.Bool.Decides.{nat_tests}
use Rattle.std.proofs.lemmas.Int.{ints, to_z-of_z, of_z-to_z}
use Rattle.ck_int.specs.Kinds.{kept_of}
use Rattle.cap_machine.specs.Integers.{extended}
use Rattle.purecap_abi.specs.Words.{is_word}

unsigned_bits : (z : ℤ) → SFits w32 z → of_z w64 z ≡ extended z
unfolding kept_of
unsigned_bits (pos n) h = let f = h.sfits in omega (arith, ints, f)
unsigned_bits (negsuc n) h = let f = h.sfits in omega (arith, ints, f)

-- one of 64 bits that fits in 32
pub number_bits : (z r : ℤ) (n : ℕ) → SFits w32 z → n < 2 ^ 64 → z ≡ to_z w64 (of_z w64 r) → r ≡ to_z w64 n
    → extended z ≡ n
number_bits z r n h lt e d =
    let same = ap (of_z w64) d ∙ of_z-to_z w64 n lt in
    sym (unsigned_bits z h) ∙ ap (of_z w64) (e ∙ ap (to_z w64) same) ∙ of_z-to_z w64 n lt

wide_fits : (z : ℤ) → SFits w32 z → SFits w64 z
wide_fits (pos n) h = let f = h.sfits in record { sfits = omega (arith, ints, f) }
wide_fits (negsuc n) h = let f = h.sfits in record { sfits = omega (arith, ints, f) }

pub word_bits : (z : ℤ) → SFits w32 z → of_z w64 (to_z w64 (of_z w64 (to_z w32 (of_z w32 z)))) ≡ extended z
word_bits z h =
    ap (λ y. of_z w64 (to_z w64 (of_z w64 y))) (to_z-of_z w32 z h) ∙ ap (of_z w64) (to_z-of_z w64 z (wide_fits z h))
    ∙ unsigned_bits z h

either_true : (a b : Bool) → b ≡ true → a || b ≡ true
either_true true b h = refl
either_true false b h = h

first_true : (a b : Bool) → a ≡ true → a || b ≡ true
first_true true b h = refl
first_true false b h = absurd cc

pub word_is : (z : ℤ) → SFits w32 z → is_word (extended z) ≡ true
unfolding kept_of
word_is (pos n) h =
    let f = h.sfits in
    let low : n % 2 ^ 64 < 2 ^ 31 = omega (arith, ints, f) in
    first_true (nat_lt (n % 2 ^ 64) (2 ^ 31)) (nat_le (2 ^ 64 - 2 ^ 31) (n % 2 ^ 64)) (grind (arith, nat_tests, low))
word_is (negsuc n) h =
    let f = h.sfits in
    let m = 2 ^ 64 - 1 - n % 2 ^ 64 in
    let high : 2 ^ 64 - 2 ^ 31 ≤ m = omega (arith, ints, f) in
    either_true (nat_lt m (2 ^ 31)) (nat_le (2 ^ 64 - 2 ^ 31) m) (grind (arith, nat_tests, high))
