-- What a write into one granule does to the memory of the machine.
use Rattle.std.proofs.Common.{◌≡◌, ℕ, ◌+◌, ◌/◌, ◌%◌, ◌^◌, ◌<◌, ◌≤◌, Bool, true, List, length, ◌∙◌, arith, Some, inl}
use Rattle.std.proofs.Common.{inr}
use Rattle.std.proofs.lemmas.Bool.{cases_lt}
use Rattle.tag_mem.specs.Areas.{Area, IsMemory, is_inside, byte_at, tag_at}
use Rattle.tag_mem.specs.Memory.{written, fits_inside, Spells}
use Rattle.tag_mem.specs.Numbers.{little_bytes}
use Rattle.tag_mem.proofs.ByAddress.{Writes-written, fits_inside-granule, IsMemory-written}
use Rattle.tag_mem.proofs.Laws.{Spells-written}
use Rattle.tag_mem.proofs.LittleEndian.{length-little_bytes, small-little_bytes}

-- n bytes of v stand at an address, and the tag of their granule is as given; all else is as it was
pub record Wrote (old new : List Area) (at n v : ℕ) (tag : Bool) : Type 0 where
  pub areas : IsMemory new
  pub inside : (k : ℕ) → k < n → byte_at new (at + k) ≡ Some (v / 256 ^ k % 256)
  pub outside : (x : ℕ) → (at ≤ x → at + n ≤ x) → byte_at new x ≡ byte_at old x
  pub tagged : (x : ℕ) → x / 16 ≡ at / 16 → tag_at new x ≡ Some tag
  pub others : (x : ℕ) → (x / 16 ≡ at / 16 → ⊥) → tag_at new x ≡ tag_at old x
  pub places : (x : ℕ) → is_inside new x ≡ is_inside old x

pub wrote : (m : List Area) (at n v : ℕ) (tag : Bool) → IsMemory m → is_inside m at ≡ true → at % 16 + n ≤ 16 → 0 < n
    → Wrote m (written m at (little_bytes n v) tag) at n v tag
unfolding Spells
wrote m at n v tag h inside granule some =
    let size = length-little_bytes n v in
    let fits : fits_inside m at (length (little_bytes n v)) ≡ true =
    rw size (fits_inside-granule m at n h granule ∙ inside) in
    let writes = Writes-written m at (little_bytes n v) tag h fits in
    record {
      areas = IsMemory-written m at (little_bytes n v) tag h (small-little_bytes n v);
      inside = Spells-written m at n v tag h inside granule;
      outside = λ x off. writes.other_bytes x (elim
          (cases_lt x at) [ inl low ↦ inl low | inr high ↦ inr (let q = off high in omega (arith, size)) ]);
      tagged = λ x same. writes.tags_there x (omega arith) (omega (arith, size));
      others = λ x other. writes.other_tags x (elim
          (cases_lt (x / 16) (at / 16)) [
            | inl low ↦ inl low
            | inr high ↦ inr
                (let q : at / 16 < x / 16 = omega (arith, other, high) in omega (arith, size))
          ]);
      places = writes.same_inside;
    }
