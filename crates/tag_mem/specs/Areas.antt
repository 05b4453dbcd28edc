-- Memory is a list of areas, one for each region, in the order of their addresses. An area has its bytes, and a tag for
-- each granule of 16 bytes (CHERI ISAv9, tagged memory). A reader sees what `byte_at` and `tag_at` say of each address.
use Rattle.std.specs.Prelude.{◌≡◌, ℕ, ◌+◌, ◌-◌, ◌*◌, ◌/◌, ◌%◌, ◌^◌, ◌<◌, ◌≤◌, ◌&&◌, nat_lt, nat_le, Bool, false, List}
use Rattle.std.specs.Prelude.{[], ◌∷◌, length, take, drop, map, slice_index, slice_index_or, Option, All, ⊤, find}
use Rattle.std.specs.Option.{option_map}
use Rattle.std.specs.List.{list_any}

pub record Area : Type 0 where
  pub base : ℕ
  pub bytes : List ℕ
  pub tags : List Bool

-- the address after its last byte
abbrev pub end_of : Area → ℕ
end_of a = a.base + length a.bytes

-- the address lies in the area
abbrev pub has : Area → ℕ → Bool
has a at = nat_le a.base at && nat_lt at (end_of a)

-- n bytes from an address on
abbrev pub bytes_in : Area → ℕ → ℕ → List ℕ
bytes_in a at n = take n (drop (at - a.base) a.bytes)

-- the tag of an address's granule
abbrev pub tag_in : Area → ℕ → Bool
tag_in a at = slice_index_or a.tags ((at - a.base) / 16) false

-- the area that has an address
abbrev pub area_at : List Area → ℕ → Option Area
area_at m at = find (λ a. has a at) m

-- the address lies in some area
unfoldable pub is_inside : List Area → ℕ → Bool
is_inside m at = list_any (λ a. has a at) m

-- the byte at an address
unfoldable pub byte_at : List Area → ℕ → Option ℕ
byte_at m at = option_map (λ a. slice_index a.bytes (at - a.base)) (area_at m at)

-- the tag of an address's granule
unfoldable pub tag_at : List Area → ℕ → Option Bool
tag_at m at = option_map (λ a. tag_in a at) (area_at m at)

-- the base and the length of each area
unfoldable pub extents : List Area → List (ℕ × ℕ)
extents m = map (λ a. (a.base, length a.bytes)) m

-- an area of whole granules
pub record IsArea (a : Area) : Type 0 where
  pub base : a.base % 16 ≡ 0
  pub granules : length a.bytes ≡ 16 * length a.tags
  pub bytes : All (λ b. b < 256) a.bytes
  pub end : end_of a ≤ 2 ^ 40

-- the areas lie from an address on, each behind the one before it
abbrev pub AreasFrom : ℕ → List Area → Type 0
AreasFrom low [] = ⊤
AreasFrom low (a ∷ m) = (low ≤ a.base) × IsArea a × AreasFrom (end_of a) m

-- what holds of the areas of every memory
unfoldable pub IsMemory : List Area → Type 0
IsMemory m = AreasFrom 0 m
