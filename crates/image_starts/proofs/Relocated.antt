-- What relocations store: each its capability at its place; all else stays.
use Rattle.std.proofs.Common.{◌≡◌, ℕ, ◌+◌, ◌/◌, ◌%◌, ◌^◌, ◌<◌, ◌≤◌, ◌⊎◌, true, List, [], ◌∷◌, ◌++◌}
use Rattle.std.proofs.Common.{length, Some, Ok, refl, ap, ◌∙◌, arith, inl, inr}
use Rattle.std.specs.Prelude.{All, if◌then◌else◌}
use Rattle.std.proofs.lemmas.Bool.{cases_lt}
use Rattle.std.specs.Option.{option_map}
use Rattle.std.proofs.lemmas.List.Elements.{All-cons, All-head, All-nil, All-tail}
use Rattle.cap_concentrate.specs.declared.fields.Fields.{Fields}
use Rattle.cap_concentrate.specs.Encoding.{with_bounds}
use Rattle.cap_concentrate.specs.Packing.{bits_of}
use Rattle.cap_concentrate.proofs.Packed.{bits_of_below}
use Rattle.cap_ops.specs.declared.capability.TheConstants.{UNSEALED, SENTRY}
use Rattle.cap_ops.specs.Bounded.{bounded}
use Rattle.tag_mem.specs.Areas.{Area, IsMemory, is_inside, byte_at, tag_at}
use Rattle.tag_mem.specs.Memory.{written}
use Rattle.tag_mem.specs.Numbers.{little_bytes}
use Rattle.tag_mem.proofs.ByAddress.{IsMemory-written}
use Rattle.tag_mem.proofs.Laws.{byte_at-written_other, tag_at-written_other, is_inside-written, capability_at-written}
use Rattle.tag_mem.proofs.Laws.{capability_at-written_other}
use Rattle.tag_mem.proofs.LittleEndian.{length-little_bytes, small-little_bytes}
use Rattle.cap_machine.specs.Rows.{memory_bits}
use Rattle.elf_file.specs.declared.image.Reloc.{Reloc}
use Rattle.image_load.specs.Judging.{Extent, capability_of, address_of, is_sentry, judged_relocs}
use Rattle.image_load.specs.State.{relocated}
use Rattle.image_load.proofs.Judged.{good_first}
use Rattle.cap_reloc.specs.Begins.{IsInside}
use Rattle.place_inject.specs.Parts.{capability_in, kept_at}
use Rattle.place_inject.proofs.Bits.{fields_back, flipped_small}

-- the bytes that a relocation stores
abbrev pub bytes_of : Reloc → List ℕ
bytes_of r = little_bytes 16 (memory_bits (capability_of r).fields)

abbrev pub stored : List Area → Reloc → List Area
stored m r = written m r.place (bytes_of r) true

pub relocated_both : (m : List Area) (rs ss : List Reloc) → relocated m (rs ++ ss) ≡ relocated (relocated m rs) ss
unfolding relocated
relocated_both m [] ss = refl
relocated_both m (r ∷ rs) ss = relocated_both (stored m r) rs ss

pub stored_memory : (m : List Area) (r : Reloc) → IsMemory m → IsMemory (stored m r)
stored_memory m r h =
    IsMemory-written m r.place (bytes_of r) true h (small-little_bytes 16 (memory_bits (capability_of r).fields))

pub relocated_memory : (m : List Area) (rs : List Reloc) → IsMemory m → IsMemory (relocated m rs)
unfolding relocated
relocated_memory m [] h = h
relocated_memory m (r ∷ rs) h = relocated_memory (stored m r) rs (stored_memory m r h)

pub relocated_inside : (m : List Area) (rs : List Reloc) (x : ℕ) → is_inside (relocated m rs) x ≡ is_inside m x
unfolding relocated
relocated_inside m [] x = refl
relocated_inside m (r ∷ rs) x = relocated_inside (stored m r) rs x ∙ is_inside-written m r.place (bytes_of r) true x

sixteen : (r : Reloc) → length (bytes_of r) ≡ 16
sixteen r = length-little_bytes 16 (memory_bits (capability_of r).fields)

-- ---- outside the extent that has their places

module _ (from size x : ℕ) (out : (x < from) ⊎ (from + size ≤ x)) where
  off : (r : Reloc) → IsInside from size r → (n : ℕ) → n ≡ 16 → (x < r.place) ⊎ (r.place + n ≤ x)
  off r i n e = by out
    where
      by : (x < from) ⊎ (from + size ≤ x) → (x < r.place) ⊎ (r.place + n ≤ x)
      by (inl before) = inl (let a = i.above in omega arith)
      by (inr behind) = inr (let a = i.below in omega arith)

  pub relocated_bytes : (m : List Area) (rs : List Reloc) → IsMemory m → All (IsInside from size) rs
      → byte_at (relocated m rs) x ≡ byte_at m x
  unfolding relocated
  relocated_bytes m [] h there = refl
  relocated_bytes m (r ∷ rs) h there =
      relocated_bytes (stored m r) rs (stored_memory m r h) (All-tail (IsInside from size) r rs there)
      ∙ byte_at-written_other m r.place (bytes_of r) true h x
      (off r (All-head (IsInside from size) r rs there) (length (bytes_of r)) (sixteen r))

  granule : (r : Reloc) → IsInside from size r → (n : ℕ) → n ≡ 16
      → (x / 16 < r.place / 16) ⊎ ((r.place + n + 15) / 16 ≤ x / 16)
  granule r i n e = by (off r i n e)
    where
      by : (x < r.place) ⊎ (r.place + n ≤ x) → (x / 16 < r.place / 16) ⊎ ((r.place + n + 15) / 16 ≤ x / 16)
      by (inl before) = inl (let a = i.aligned in omega arith)
      by (inr behind) = inr (let a = i.aligned in omega arith)

  pub relocated_tags : (m : List Area) (rs : List Reloc) → IsMemory m → All (IsInside from size) rs
      → tag_at (relocated m rs) x ≡ tag_at m x
  unfolding relocated
  relocated_tags m [] h there = refl
  relocated_tags m (r ∷ rs) h there =
      relocated_tags (stored m r) rs (stored_memory m r h) (All-tail (IsInside from size) r rs there)
      ∙ tag_at-written_other m r.place (bytes_of r) true h x
      (granule r (All-head (IsInside from size) r rs there) (length (bytes_of r)) (sixteen r))

-- the places of relocations that are not refused
pub all_good : (rs : List Reloc) (e : Extent) → judged_relocs e rs (Ok tt) ≡ Ok tt → All (IsInside e.0 e.1) rs
all_good [] e h = All-nil (IsInside e.0 e.1)
all_good (r ∷ rs) e h =
    let g = good_first r rs e h in
    All-cons (IsInside e.0 e.1) r rs (record { aligned = g.0.even; above = g.0.from; below = g.0.to })
    (all_good rs e g.1)

-- ---- capabilities

address_is : (low high perms otype at : ℕ) → (bounded low high perms otype at).fields.address ≡ at
unfolding with_bounds
address_is low high perms otype at = refl

pub address_below : (r : Reloc) → (capability_of r).fields.address < 2 ^ 64
address_below r =
    let otype = if is_sentry r.perms then SENTRY else UNSEALED in
    omega (arith, address_is r.base (r.base + r.length) (r.perms % 128) otype (address_of r))

pub kept_here : (m : List Area) (r : Reloc) → IsMemory m → is_inside m r.place ≡ true → r.place % 16 ≡ 0
    → kept_at (stored m r) r.place ≡ Some (capability_of r)
kept_here m r h inside aligned =
    let c = capability_of r in
    ap (option_map capability_in) (capability_at-written m r.place (memory_bits c.fields) true h inside aligned
    (flipped_small (bits_of c.fields) (bits_of_below c.fields (address_below r))))
    ∙ ap (λ (f : Fields). Some (record { tag = true; fields = f })) (fields_back c.fields (address_below r))

pub kept_other : (m : List Area) (r : Reloc) (at : ℕ) → IsMemory m → at % 16 ≡ 0 → r.place % 16 ≡ 0
    → (at ≡ r.place → ⊥) → kept_at (stored m r) at ≡ kept_at m at
kept_other m r at h aligned here ne =
    let n = sixteen r in
    ap (option_map capability_in) (capability_at-written_other m r.place (bytes_of r) true at h
    (small-little_bytes 16 (memory_bits (capability_of r).fields)) aligned
    (elim (cases_lt at r.place) [
      | inl low ↦ inl (omega (arith, low, aligned, here))
      | inr high ↦ inr (omega (arith, high, n, aligned, here, ne))
    ]))

-- at granules of their own
abbrev pub AreElsewhere : ℕ → List Reloc → Type 0
AreElsewhere at [] = Unit {0}
AreElsewhere at (r ∷ rs) = (r.place % 16 ≡ 0) × (at ≡ r.place → ⊥) × AreElsewhere at rs

pub kept_behind : (at : ℕ) (rs : List Reloc) (m : List Area) → IsMemory m → at % 16 ≡ 0 → AreElsewhere at rs
    → kept_at (relocated m rs) at ≡ kept_at m at
unfolding relocated
kept_behind at [] m h aligned off = refl
kept_behind at (r ∷ rs) m h aligned off =
    kept_behind at rs (stored m r) (stored_memory m r h) aligned off.2
    ∙ kept_other m r at h aligned off.0 off.1
