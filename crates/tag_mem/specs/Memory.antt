-- What the calls on memory read and write.
use Rattle.std.specs.Prelude.{◌≡◌, ℕ, ◌+◌, ◌-◌, ◌/◌, ◌%◌, ◌^◌, ◌<◌, ◌≤◌, ◌==◌, ◌||◌, ◌⊎◌, nat_le, Bool, false, List, []}
use Rattle.std.specs.Prelude.{◌∷◌, ◌++◌, length, take, drop, replicate, slice_index, position, Option, Some, IsTrue}
use Rattle.std.specs.Prelude.{if◌then◌else◌}
use Rattle.std.specs.Option.{option_map, option_map_or}
use Rattle.tag_mem.specs.Areas.{Area, end_of, has, bytes_in, tag_in, area_at, is_inside, byte_at, tag_at, extents}
use Rattle.tag_mem.specs.Numbers.{little_number}
use Rattle.tag_mem.specs.Granules.{granule_bytes}

-- 1, 2, 4 or 8 bytes
abbrev pub IsAccessSize : ℕ → Type 0
IsAccessSize n = IsTrue (n == 1 || n == 2 || n == 4 || n == 8)

-- which of the areas has an address
abbrev pub place_of : List Area → ℕ → Option ℕ
place_of m at = position (λ a. has a at) m

-- the number of n bytes at an address
unfoldable pub number_at : List Area → ℕ → ℕ → Option ℕ
number_at m at n = option_map (λ a. little_number (bytes_in a at n)) (area_at m at)

-- the 128 bits of a capability at an address, and its tag
unfoldable pub capability_at : List Area → ℕ → Option (ℕ × Bool)
capability_at m at = option_map (λ a. (little_number (bytes_in a at 16), tag_in a at)) (area_at m at)

-- n bytes from an address on lie in the area that has the address
unfoldable pub fits_inside : List Area → ℕ → ℕ → Bool
fits_inside m at n = option_map_or (λ a. nat_le (at + n) (end_of a)) (area_at m at) false

-- the list with these in place of as many from a place on
abbrev pub replaced : {X : Type 0} → ℕ → List X → List X → List X
replaced place new xs = take place xs ++ (new ++ drop (place + length new) xs)

-- the number of the first granule behind n bytes
abbrev pub granules_to : ℕ → ℕ
granules_to n = (n + 15) / 16

-- the area with these bytes from a place on, and with this tag on each granule that they touch
abbrev pub area_holding : Area → ℕ → List ℕ → Bool → Area
area_holding a place new tag = record {
  base = a.base;
  bytes = replaced place new a.bytes;
  tags = replaced (place / 16) (replicate (granules_to (place + length new) - place / 16) tag) a.tags;
}

-- the same from an address on, and the area as it was where they go past its end
abbrev pub area_with : Area → ℕ → List ℕ → Bool → Area
area_with a at new tag = if nat_le (at + length new) (end_of a) then area_holding a (at - a.base) new tag else a

-- memory with these bytes from an address on, in the area that has the address, and with this tag on each granule that
-- they touch; memory as it was where they don't lie in that area
unfoldable pub written : List Area → ℕ → List ℕ → Bool → List Area
written [] at new tag = []
written (a ∷ m) at new tag = if has a at then area_with a at new tag ∷ m else a ∷ written m at new tag

-- the n bytes from an address on are those of the number
unfoldable pub Spells : List Area → ℕ → ℕ → ℕ → Type 0
Spells m at n v = (k : ℕ) → k < n → byte_at m (at + k) ≡ Some (v / 256 ^ k % 256)

-- the bytes of this granule stand from the address on
unfoldable pub Holds : List Area → ℕ → List ℕ → Type 0
Holds m at granule = (k : ℕ) → k < 16 → byte_at m (at + k) ≡ Some (slice_index (granule_bytes granule) k)

-- The bytes stand from the address on, and the tag on each granule that they touch. All else is as it was.
pub record Writes (old new : List Area) (at : ℕ) (bytes : List ℕ) (tag : Bool) : Type 0 where
  pub bytes_there : (x : ℕ) → at ≤ x → x < at + length bytes → byte_at new x ≡ Some (slice_index bytes (x - at))
  pub other_bytes : (x : ℕ) → (x < at) ⊎ (at + length bytes ≤ x) → byte_at new x ≡ byte_at old x
  pub tags_there : (x : ℕ) → at / 16 ≤ x / 16 → x / 16 < granules_to (at + length bytes) → tag_at new x ≡ Some tag
  pub other_tags : (x : ℕ) → (x / 16 < at / 16) ⊎ (granules_to (at + length bytes) ≤ x / 16) →
      tag_at new x ≡ tag_at old x
  pub same_inside : (x : ℕ) → is_inside new x ≡ is_inside old x
  pub same_extents : extents new ≡ extents old
