-- Truth values, packed.
use Rattle.std.proofs.Common.{◌≡◌, ◌≢◌, ℕ, ◌*◌, ◌/◌, ◌%◌, ◌^◌, ◌<◌, ◌≤◌, Bool, true, false, cond, eqb, List}
use Rattle.std.proofs.Common.{length, get_or, set, replicate, sym, ap, ◌∙◌, arith, inl}
use Rattle.std.proofs.Common.{inr, get_or-set_same, get_or-set_other, eq-eqb}
use Rattle.std.specs.Int.{bit_at, bit_not, w64}
use Rattle.std.specs.Prelude.{bit_and, bit_or}
use Rattle.std.proofs.lemmas.Nat.Bits.{bit_at_set_same, bit_at_set_other, bit_at_clear_same, bit_at_clear_other}
use Rattle.std.proofs.lemmas.Nat.Bits.{bit_at-zero}
use Rattle.std.proofs.lemmas.Bool.{cases_eq}
use Rattle.std.proofs.lemmas.List.{length-replicate, get_or-replicate}
use Rattle.std.proofs.lemmas.List.FromFn.{length-map-range_with_len, get_or-map-range_with_len, fill_by_all}
use Rattle.std.proofs.Math.ListN.{length-set}
use Rattle.tag_mem.specs.Packed.{is_set, unpacked}

abbrev get_at : List ℕ → ℕ → ℕ
get_at words k = get_or words k 0

pub long : (words : List ℕ) (count : ℕ) (now : List Bool) → unpacked words count ≡ now → length now ≡ count
long words count now e = sym (ap (λ (x : List Bool). length x) e) ∙ length-map-range_with_len (is_set words) 0 count

is_set_other : (words : List ℕ) (i w k : ℕ) → i / 64 < length words → k ≢ i →
    ((j : ℕ) → j < 64 → j ≢ i % 64 → bit_at w j ≡ bit_at (get_or words (i / 64) 0) j) →
    is_set words k ≡ is_set (set words (i / 64) w) k
is_set_other words i w k place ne other =
    elim (cases_eq (k / 64) (i / 64)) [
      | inl e ↦
          let apart : k % 64 ≢ i % 64 = λ same. ne (omega arith) in
          let old : bit_at w (k % 64) ≡ bit_at (get_or words (i / 64) 0) (k % 64) =
          other (k % 64) (omega arith) apart in
          let new : get_or (set words (i / 64) w) (k / 64) 0 ≡ w =
          ap (get_at (set words (i / 64) w)) e ∙ get_or-set_same words (i / 64) w 0 place in
          ap (λ (x : ℕ). eqb (bit_at (get_or words x 0) (k % 64)) 1) e ∙ ap (λ (x : ℕ). eqb x 1) (sym old)
          ∙ ap (λ (x : ℕ). eqb (bit_at x (k % 64)) 1) (sym new)
      | inr far ↦ ap (λ (x : ℕ). eqb (bit_at x (k % 64)) 1) (sym (get_or-set_other words (i / 64) (k / 64) w 0 far))
    ]

-- a word in which only one bit changes
pub set-is : (words : List ℕ) (count i w : ℕ) (b : Bool) → i < count → count ≤ 64 * length words
    → (eqb (bit_at w (i % 64)) 1 ≡ b) →
    ((k : ℕ) → k < 64 → k ≢ i % 64 → bit_at w k ≡ bit_at (get_or words (i / 64) 0) k)
    → unpacked (set words (i / 64) w) count ≡ set (unpacked words count) i b
set-is words count i w b h room same other =
    let len = length-map-range_with_len (is_set words) 0 count in
    let place : i / 64 < length words = omega arith in
    sym (fill_by_all (is_set (set words (i / 64) w)) (set (unpacked words count) i b) count false
    (omega (arith, len, length-set {A = Bool})) (λ k lt.
    elim (cases_eq k i) [
      | inl e ↦ rw e (get_or-set_same (unpacked words count) i b false (omega (arith, len))
          ∙ sym (ap (λ (x : ℕ). eqb (bit_at x (i % 64)) 1) (get_or-set_same words (i / 64) w 0 place) ∙ same))
      | inr ne ↦ get_or-set_other (unpacked words count) i k b false ne
          ∙ get_or-map-range_with_len (is_set words) 0 count k k false lt (omega arith)
          ∙ is_set_other words i w k place ne other
    ]))

-- the word with the bit set, and the word with the bit clear
pub changed : (old k : ℕ) (b : Bool) (w : ℕ) → k < 64 →
    (w ≡ cond b (bit_or old (1 * 2 ^ k % 2 ^ 64)) (bit_and old (bit_not w64 (1 * 2 ^ k % 2 ^ 64)))) →
    (eqb (bit_at w k) 1 ≡ b) × ((j : ℕ) → j < 64 → j ≢ k → bit_at w j ≡ bit_at old j)
changed old k true w h e =
    (rw e (eq-eqb _ _ (bit_at_set_same w64 old k h)), λ j lt ne. rw e (bit_at_set_other w64 old k h j ne))
changed old k false w h e = (
  rw e (ap (λ (x : ℕ). eqb x 1) (bit_at_clear_same w64 old k h)),
  λ j lt ne. rw e (bit_at_clear_other w64 old k h j lt ne),
)

-- words of zeros hold no truth
pub unpacked_clear : (n count : ℕ) → count ≤ 64 * n → unpacked (replicate n 0) count ≡ replicate count false
unpacked_clear n count room =
    sym (fill_by_all (is_set (replicate n 0)) (replicate count false) count false (length-replicate count false)
    (λ k lt.
    get_or-replicate count k false false lt
    ∙ sym (ap (λ (x : ℕ). eqb (bit_at x (k % 64)) 1) (get_or-replicate n (k / 64) 0 0 (omega arith))
    ∙ ap (λ (x : ℕ). eqb x 1) (bit_at-zero (k % 64)))))

pub get_or-unpacked : (words : List ℕ) (count i : ℕ) → i < count →
    get_or (unpacked words count) i false ≡ is_set words i
get_or-unpacked words count i h = get_or-map-range_with_len (is_set words) 0 count i i false h (omega arith)
