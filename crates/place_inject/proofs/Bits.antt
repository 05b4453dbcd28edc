-- The bits of capabilities in registers and in memory.
use Rattle.std.proofs.Common.{◌≡◌, ℕ, zero, suc, ◌+◌, ◌*◌, ◌/◌, ◌%◌, ◌^◌, ◌<◌, ◌∷◌, ◌++◌, sym, ap, ◌∙◌, arith, bit_xor}
use Rattle.std.specs.Int.Bits.{xor_assoc, xor_self, xor_zero_r}
use Rattle.std.proofs.lemmas.Nat.{xor_lt}
use Rattle.std.proofs.Math.Nat.{pow-succ'}
use Rattle.std.proofs.Math.Nat.{mul_assoc, mul_comm}
use Rattle.cap_concentrate.specs.declared.fields.Fields.{Fields}
use Rattle.cap_concentrate.specs.declared.packing.TheConstants.{NULL_BITS}
use Rattle.cap_concentrate.specs.Packing.{bits_of, fields_of, flipped}
use Rattle.cap_concentrate.proofs.Packed.{fields_of-bits_of, bits_of-fields_of}
use Rattle.obj_mem.specs.Objects.{Byte}
use Rattle.obj_mem.specs.Access.{bytes_of}

-- turned twice they are as they were
pub flipped_back : (n : ℕ) → flipped (flipped n) ≡ n
flipped_back n = xor_assoc n NULL_BITS NULL_BITS ∙ ap (bit_xor n) (xor_self NULL_BITS) ∙ xor_zero_r n

pub flipped_small : (n : ℕ) → n < 2 ^ 128 → flipped n < 2 ^ 128
flipped_small n h = xor_lt 128 n NULL_BITS h (omega arith)

-- the bits of what memory holds
pub raw_stored : (n : ℕ) → n < 2 ^ 128 → flipped (bits_of (fields_of (flipped n))) ≡ n
raw_stored n h = ap flipped (bits_of-fields_of (flipped n) (flipped_small n h)) ∙ flipped_back n

-- and what memory holds of some fields gives them back
pub fields_back : (f : Fields) → f.address < 2 ^ 64 → fields_of (flipped (flipped (bits_of f))) ≡ f
fields_back f h = ap fields_of (flipped_back (bits_of f)) ∙ fields_of-bits_of f h

-- the bytes of a number, and then those of another
pub bytes_joined : (n k m x y z : ℕ) → m ≡ n + k → z ≡ y * 256 ^ n + x → x < 256 ^ n
    → bytes_of n x ++ bytes_of k y ≡ bytes_of m z
bytes_joined zero k m x y z e f h = ap (bytes_of k) (let q : y ≡ z = omega arith in q)
    ∙ ap (λ i. bytes_of i z) (let q : k ≡ m = omega arith in q)
bytes_joined (suc n) k zero x y z e f h = absurd (omega arith)
bytes_joined (suc n) k (suc m) x y z e f h =
    let p : 256 ^ suc n ≡ 256 * 256 ^ n = pow-succ' 256 n in
    let q : y * (256 * 256 ^ n) ≡ 256 * (y * 256 ^ n) = sym (mul_assoc y 256 (256 ^ n))
    ∙ ap (λ v. v * 256 ^ n) (mul_comm y 256) ∙ mul_assoc 256 y (256 ^ n) in
    let f' : z ≡ 256 * (y * 256 ^ n) + x = f ∙ ap (λ v. y * v + x) p ∙ ap (λ v. v + x) q in
    let h' : x < 256 * 256 ^ n = rw (← p) h in
    let low : x % 256 ≡ z % 256 = omega arith in
    let rest = bytes_joined n k m (x / 256) y (z / 256) (omega arith) (omega arith) (omega arith) in
    ap (λ cs. Byte (x % 256) ∷ cs) rest ∙ ap (λ b. Byte b ∷ bytes_of m (z / 256)) low
