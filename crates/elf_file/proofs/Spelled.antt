-- Fields that bytes begin with are those bytes.
use Rattle.std.proofs.Common.{◌≡◌, ℕ, zero, suc, ◌+◌, ◌*◌, ◌/◌, ◌%◌, ◌^◌, ◌<◌, ◌≤◌, true, eqb, List, [], ◌∷◌, ◌++◌}
use Rattle.std.proofs.Common.{length, slice_index, take, drop, refl, sym, ap, ◌∙◌, arith}
use Rattle.std.proofs.Math.Nat.{div-div-eq-div-mul, div-one, mul_comm, pow-suc}
use Rattle.std.proofs.Math.Seq.{take-add}
use Rattle.std.proofs.lemmas.Bool.{and_parts, eqb-true}
use Rattle.std.proofs.lemmas.List.{length-drop, get_or-drop}
use Rattle.std.specs.Int.{byte_at, bytes_low_first}
use Rattle.byteorder.specs.Endian.{little_from, little_number, little_bytes}
use Rattle.byteorder.specs.Numbers.{little_from-cons}
use Rattle.elf_file.specs.declared.field.Field.{Field}
use Rattle.elf_file.specs.Fields.{width_of, value_of, bytes_of, number, spelled, size_of, meets}

-- each is a byte
pub record AreBytes (bytes : List ℕ) : Type 0 where
  pub below : (k : ℕ) → slice_index bytes k < 256

pub AreBytes-drop : (n : ℕ) (bytes : List ℕ) → AreBytes bytes → AreBytes (drop n bytes)
AreBytes-drop n bytes h = record { below = λ k. omega (arith, h.below (n + k), get_or-drop n bytes k 0) }

-- ---- a number's bytes

byte_at-pow : (k n : ℕ) → byte_at k n ≡ n / 256 ^ k % 256
byte_at-pow zero n = ap (λ (x : ℕ). x % 256) (sym (div-one n))
byte_at-pow (suc k) n = refl

-- a byte below moves the others up by one
bytes_moved : (j n b m : ℕ) → b < 256 → bytes_low_first (suc j) n (b + 256 * m) ≡ bytes_low_first j n m
bytes_moved j zero b m h = refl
bytes_moved j (suc n) b m h =
    let divided : (b + 256 * m) / 256 ≡ m = omega arith in
    let here : byte_at (suc j) (b + 256 * m) ≡ byte_at j m =
    byte_at-pow (suc j) (b + 256 * m)
    ∙ ap (λ (p : ℕ). (b + 256 * m) / p % 256) (pow-suc 256 j ∙ mul_comm (256 ^ j) 256)
    ∙ ap (λ (q : ℕ). q % 256) (sym (div-div-eq-div-mul (b + 256 * m) 256 (256 ^ j))
    ∙ ap (λ (q : ℕ). q / 256 ^ j) divided)
    ∙ sym (byte_at-pow j m) in
    ap (λ (x : ℕ). x ∷ bytes_low_first (suc (suc j)) n (b + 256 * m)) here
    ∙ ap (λ (xs : List ℕ). byte_at j m ∷ xs) (bytes_moved (suc j) n b m h)

-- the bytes of the number in the first n bytes are these
bytes_again : (n : ℕ) (bytes : List ℕ) → AreBytes bytes → n ≤ length bytes →
    little_bytes n (little_number n bytes) ≡ take n bytes
bytes_again zero bytes h long = refl
bytes_again (suc n) [] h long = absurd (omega arith)
bytes_again (suc n) (b ∷ bytes) h long =
    let small : b < 256 = h.below 0 in
    let rest : AreBytes bytes = record { below = λ k. h.below (suc k) } in
    let m = little_from 0 n bytes in
    let whole : little_number (suc n) (b ∷ bytes) ≡ b + 256 * m =
    ap (λ (x : ℕ). b + 256 * x) (little_from-cons 0 n b bytes) in
    let first : byte_at 0 (b + 256 * m) ≡ b = omega arith in
    ap (little_bytes (suc n)) whole
    ∙ ap (λ (x : ℕ). x ∷ bytes_low_first 1 n (b + 256 * m)) first
    ∙ ap (λ (xs : List ℕ). b ∷ xs) (bytes_moved 0 n b m small ∙ bytes_again n bytes rest (omega arith))

field_spelled : (f : Field) (bytes : List ℕ) → AreBytes bytes → width_of f ≤ length bytes →
    number (width_of f) bytes ≡ value_of f → take (width_of f) bytes ≡ bytes_of f
unfolding number
field_spelled f bytes h long e = sym (bytes_again (width_of f) bytes h long) ∙ ap (little_bytes (width_of f)) e

-- ---- a run of fields

pub meets_spelled : (fs : List Field) (bytes : List ℕ) → AreBytes bytes → size_of fs ≤ length bytes →
    meets fs bytes ≡ true → take (size_of fs) bytes ≡ spelled fs
unfolding meets size_of spelled
meets_spelled [] bytes h long e = refl
meets_spelled (f ∷ fs) bytes h long e =
    let w = width_of f in
    let both = and_parts (eqb (number w bytes) (value_of f)) (meets fs (drop w bytes)) e in
    let here : take w bytes ≡ bytes_of f =
    field_spelled f bytes h (omega arith) (eqb-true (number w bytes) (value_of f) both.0) in
    let on : take (size_of fs) (drop w bytes) ≡ spelled fs =
    meets_spelled fs (drop w bytes) (AreBytes-drop w bytes h) (omega (arith, length-drop w bytes)) both.1 in
    take-add w (size_of fs) bytes ∙ ap (λ (x : List ℕ). x ++ take (size_of fs) (drop w bytes)) here
    ∙ ap (λ (x : List ℕ). bytes_of f ++ x) on
