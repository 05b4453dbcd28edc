-- How an area keeps its bytes: granules of 16, one after another.
use Rattle.std.specs.Prelude.{ℕ, ◌%◌, Bool, List, map, flat_map, slice_index}
use Rattle.std.specs.List.{range_with_len}
use Rattle.tag_mem.specs.Areas.{Area}

-- the 16 bytes of a granule
unfoldable pub granule_bytes : List ℕ → List ℕ
granule_bytes g = map (λ k. slice_index g k % 256) (range_with_len 0 16)

-- the area whose bytes are those of the granules
abbrev pub area_of : ℕ → List (List ℕ) → List Bool → Area
area_of base gs tags = record { base = base; bytes = flat_map granule_bytes gs; tags = tags }
