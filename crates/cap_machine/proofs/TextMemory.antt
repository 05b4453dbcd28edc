-- A write outside the text keeps what memory has to have.
use Rattle.std.proofs.Common.{◌≡◌, ℕ, ◌+◌, ◌-◌, ◌/◌, ◌%◌, ◌^◌, ◌<◌, ◌≤◌, ◌⊎◌, inl, inr, Bool, true, false, List, length}
use Rattle.std.proofs.Common.{Some, sym, ap, ◌∙◌, subst, arith, take, drop, get_or}
use Rattle.std.specs.Prelude.{bit_xor, All}
use Rattle.std.specs.Int.Bits.{xor_assoc, xor_self, xor_zero_r}
use Rattle.std.proofs.lemmas.Bool.{false≢true, cases_eq, cases_order}
use Rattle.std.proofs.lemmas.Nat.{xor_lt}
use Rattle.std.proofs.lemmas.Option.{some_pair_parts, same_Some}
use Rattle.std.proofs.lemmas.List.{length-drop, length-take-le, get_or-take, get_or-drop}
use Rattle.std.proofs.lemmas.List.Elements.{All-drop, All-take}
use Rattle.cap_concentrate.specs.declared.fields.Fields.{Fields}
use Rattle.cap_concentrate.specs.declared.packing.TheConstants.{NULL_BITS}
use Rattle.cap_concentrate.specs.Packing.{bits_of, fields_of}
use Rattle.cap_concentrate.proofs.Packed.{bits_of_below, fields_of-bits_of}
use Rattle.cap_ops.specs.declared.capability.Cap.{Cap}
use Rattle.tag_mem.specs.Areas.{Area, is_inside, byte_at}
use Rattle.tag_mem.specs.Numbers.{little_bytes, little_number}
use Rattle.tag_mem.specs.Memory.{number_at, capability_at, fits_inside, written, granules_to, Writes, Spells}
use Rattle.tag_mem.proofs.ByAddress.{IsMemory-written, Writes-written, fits_inside-granule}
use Rattle.tag_mem.proofs.LittleEndian.{length-little_bytes, small-little_bytes, number-below, number-byte}
use Rattle.tag_mem.proofs.Reading.{capability_at-parts, number_at-Spells}
use Rattle.tag_mem.proofs.Laws.{byte_at-written_other, tag_at-written_other, capability_at-written}
use Rattle.tag_mem.proofs.Laws.{capability_at-written_other}
use Rattle.cap_machine.specs.Rows.{memory_bits, from_memory}
use Rattle.cap_machine.specs.ContainedText.{Text, end_of, LiesWell, IsPlace, word_at}
use Rattle.cap_machine.specs.Containment.{IsConfined, IsContainedMemory}

-- the word at a place is read there
pub word_read : (t : Text) (mem : List Area) (x : ℕ) → LiesWell t → IsContainedMemory t mem → IsPlace t x →
    number_at mem x 4 ≡ Some (word_at t x)
unfolding word_at Spells
word_read t mem x well has place =
    let base = well.base in
    let size = well.size in
    let from = place.from in
    let below = place.below in
    let even = place.even in
    let four : List ℕ = take 4 (drop (x - t.base) t.bytes) in
    let four_size : length four ≡ 4 =
    length-take-le 4 (drop (x - t.base) t.bytes) (omega (arith, length-drop (x - t.base) t.bytes)) in
    let four_small : All (λ b. b < 256) four =
    All-take (λ b. b < 256) 4 (drop (x - t.base) t.bytes)
    (All-drop (λ b. b < 256) (x - t.base) t.bytes well.small) in
    let bound : little_number four < 256 ^ 4 = rw four_size at (number-below four four_small) in
    number_at-Spells mem x 4 (little_number four) has.memory (omega arith) (omega arith) bound
    (λ k lt.
    let here : byte_at mem (x + k) ≡ Some (get_or t.bytes (x + k - t.base) 0) =
    has.text (x + k) (omega arith) (omega arith) in
    let byte : get_or four k 0 ≡ get_or t.bytes (x + k - t.base) 0 =
    get_or-take 4 (drop (x - t.base) t.bytes) k 0 lt ∙ get_or-drop (x - t.base) t.bytes k 0
    ∙ ap (λ i. get_or t.bytes i 0) (omega arith) in
    here ∙ ap (λ (b : ℕ). Some b) (sym byte ∙ sym (number-byte four k four_small (omega (arith, four_size)))))

-- a capability's bits in memory, and back
from_memory_bits : (f : Fields) → f.address < 2 ^ 64 → from_memory (memory_bits f) ≡ f
from_memory_bits f below =
    let twice : bit_xor (bit_xor (bits_of f) NULL_BITS) NULL_BITS ≡ bits_of f =
    xor_assoc (bits_of f) NULL_BITS NULL_BITS ∙ ap (bit_xor (bits_of f)) (xor_self NULL_BITS)
    ∙ xor_zero_r (bits_of f) in
    ap fields_of twice ∙ fields_of-bits_of f below

memory_bits_below : (f : Fields) → f.address < 2 ^ 64 → memory_bits f < 2 ^ 128
memory_bits_below f below =
    let null : NULL_BITS < 2 ^ 128 = omega arith in
    xor_lt 128 (bits_of f) NULL_BITS (bits_of_below f below) null

module _ (t : Text) (well : LiesWell t) (mem : List Area) (has : IsContainedMemory t mem) (at n v : ℕ) (tag : Bool)
    (inside : is_inside mem at ≡ true) (granule : at % 16 + n ≤ 16) (some : 0 < n)
    (apart : (at < t.base) ⊎ (end_of t ≤ at)) where
  new : List ℕ
  new = little_bytes n v

  writes : Writes mem (written mem at (little_bytes n v) tag) at (little_bytes n v) tag
  writes =
      let fits : fits_inside mem at (length (little_bytes n v)) ≡ true =
      rw (length-little_bytes n v) (fits_inside-granule mem at n has.memory granule ∙ inside) in
      Writes-written mem at (little_bytes n v) tag has.memory fits

  -- a write outside the text, where what is then in its granule is confined
  pub written_has : ((x bits : ℕ) → x % 16 ≡ 0 → x / 16 ≡ at / 16 →
      capability_at (written mem at (little_bytes n v) tag) x ≡ Some (bits, true) →
      IsConfined t (record { tag = true; fields = from_memory bits }))
      → IsContainedMemory t (written mem at (little_bytes n v) tag)
  written_has what =
      let base = well.base in
      let whole = well.size in
      let size = length-little_bytes n v in
      record {
        memory = IsMemory-written mem at (little_bytes n v) tag has.memory (small-little_bytes n v);
        text = λ x from below. byte_at-written_other mem at (little_bytes n v) tag has.memory x
            (elim apart as (λ _. (x < at) ⊎ (at + length (little_bytes n v) ≤ x))
            [ inl low ↦ inr (omega (arith, size)) | inr high ↦ inl (omega arith) ])
            ∙ has.text x from below;
        untagged = λ x from below. tag_at-written_other mem at (little_bytes n v) tag has.memory x
            (elim apart as (λ _. (x / 16 < at / 16) ⊎ (granules_to (at + length (little_bytes n v)) ≤ x / 16))
            [ inl low ↦ inr (omega (arith, size)) | inr high ↦ inl (omega arith) ])
            ∙ has.untagged x from below;
        held = λ x bits even e. elim (cases_eq (x / 16) (at / 16)) as
            (λ _. IsConfined t (record { tag = true; fields = from_memory bits })) [
              | inl same ↦ what x bits even same e
              | inr other ↦
                  let far : (x + 16 ≤ at) ⊎ (at + length (little_bytes n v) ≤ x) =
                  elim (cases_far x at n even granule other)
                  [ inl low ↦ inl low | inr high ↦ inr (omega (arith, size)) ] in
                  has.held x bits even (sym (capability_at-written_other mem at (little_bytes n v) tag x has.memory
                  (small-little_bytes n v) even far) ∙ e)
            ];
      }
    where
      cases_far : (x at n : ℕ) → x % 16 ≡ 0 → at % 16 + n ≤ 16 → (x / 16 ≡ at / 16 → ⊥) → (x + 16 ≤ at) ⊎ (at + n ≤ x)
      cases_far x at n even granule other =
          elim (cases_order (x / 16) (at / 16)) as (λ _. (x + 16 ≤ at) ⊎ (at + n ≤ x)) [
            | inl e ↦ absurd (other e)
            | inr more ↦ elim more [ inl low ↦ inl (omega arith) | inr high ↦ inr (omega arith) ]
          ]

-- plain bytes leave no tag in their granule
module _ (t : Text) (well : LiesWell t) (mem : List Area) (has : IsContainedMemory t mem) (at n v : ℕ)
    (inside : is_inside mem at ≡ true) (granule : at % 16 + n ≤ 16) (some : 0 < n)
    (apart : (at < t.base) ⊎ (end_of t ≤ at)) where
  pub bytes_has : IsContainedMemory t (written mem at (little_bytes n v) false)
  bytes_has = written_has t well mem has at n v false inside granule some apart (λ x bits even same e.
      let size = length-little_bytes n v in
      let parts = capability_at-parts (written mem at (little_bytes n v) false) x bits true e in
      let clear = (writes t well mem has at n v false inside granule some apart).tags_there x (omega arith)
      (omega (arith, size)) in
      absurd (false≢true (same_Some false true (sym clear ∙ parts.1))))

-- a capability that is confined may be stored
pub capability_has : (t : Text) (well : LiesWell t) (mem : List Area) (has : IsContainedMemory t mem) (at : ℕ) (c : Cap)
    → is_inside mem at ≡ true → at % 16 ≡ 0 → (at < t.base) ⊎ (end_of t ≤ at) → IsConfined t c →
    IsContainedMemory t (written mem at (little_bytes 16 (memory_bits c.fields)) c.tag)
capability_has t well mem has at c inside aligned apart held =
    written_has t well mem has at 16 (memory_bits c.fields) c.tag inside (omega arith) (omega arith) apart
    (λ x bits even same e.
    let here : at ≡ x = omega arith in
    let is = capability_at-written mem at (memory_bits c.fields) c.tag has.memory inside aligned
    (memory_bits_below c.fields held.address) in
    let found : capability_at (written mem at (little_bytes 16 (memory_bits c.fields)) c.tag) at ≡ Some (bits, true) =
    ap (capability_at (written mem at (little_bytes 16 (memory_bits c.fields)) c.tag)) here ∙ e in
    let parts = some_pair_parts (memory_bits c.fields) bits c.tag true (sym is ∙ found) in
    let fields : from_memory bits ≡ c.fields = ap from_memory (sym parts.0) ∙ from_memory_bits c.fields held.address in
    subst (λ (d : Cap). IsConfined t d) (λ i. record { tag = parts.1 i; fields = sym fields i }) held)
