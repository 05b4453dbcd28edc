-- The regions that memory is made of, and memory as it is made.
use Rattle.std.specs.Prelude.{◌≡◌, ℕ, ◌+◌, ◌/◌, ◌%◌, ◌^◌, ◌≤◌, ◌&&◌, nat_lt, nat_le, Bool, true, false, List, [], ◌∷◌}
use Rattle.std.specs.Prelude.{map, replicate, Some, ⊤}
use Rattle.std.specs.List.{list_any}
use Rattle.tag_mem.specs.Areas.{Area, is_inside, byte_at, tag_at}
use Rattle.tag_mem.specs.declared.region.Region.{Region}

-- whole granules below 2^40
pub record IsRegion (r : Region) : Type 0 where
  pub base : r.base % 16 ≡ 0
  pub length : r.length % 16 ≡ 0
  pub end : r.base + r.length ≤ 2 ^ 40

-- regions from an address on, each behind the one before it
abbrev pub LieFrom : ℕ → List Region → Type 0
LieFrom low [] = ⊤
LieFrom low (r ∷ rs) = (low ≤ r.base) × IsRegion r × LieFrom (r.base + r.length) rs

-- the address lies in some region
abbrev pub lies_in : List Region → ℕ → Bool
lies_in rs x = list_any (λ r. nat_le r.base x && nat_lt x (r.base + r.length)) rs

-- a region of zeros without tags
abbrev pub fresh_area : Region → Area
fresh_area r = record { base = r.base; bytes = replicate r.length 0; tags = replicate (r.length / 16) false }

-- memory of zeros without tags
unfoldable pub fresh : List Region → List Area
fresh rs = map fresh_area rs

-- exactly the addresses in the regions have a byte, which is 0, and a tag, which is clear
pub record IsZeroed (m : List Area) (rs : List Region) : Type 0 where
  pub inside : (x : ℕ) → is_inside m x ≡ lies_in rs x
  pub bytes : (x : ℕ) → lies_in rs x ≡ true → byte_at m x ≡ Some 0
  pub tags : (x : ℕ) → lies_in rs x ≡ true → tag_at m x ≡ Some false
