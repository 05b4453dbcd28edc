-- Truth values in words of 64 bits, the first in the lowest bit; and the bytes of granules, in their order.
use Rattle.std.specs.Prelude.{ℕ, ◌/◌, ◌%◌, ◌==◌, Bool, List, map, slice_index}
use Rattle.std.specs.List.{range_with_len}
use Rattle.std.specs.Int.{bit_at}

-- the truth value k
abbrev pub is_set : List ℕ → ℕ → Bool
is_set words k = bit_at (slice_index words (k / 64)) (k % 64) == 1

-- the first of them, so many
abbrev pub unpacked : List ℕ → ℕ → List Bool
unpacked words count = map (is_set words) (range_with_len 0 count)
