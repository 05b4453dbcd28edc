-- The lengths that a heap and a stack may have: multiples of 65,536 in a range.
use Rattle.std.specs.Prelude.{◌≡◌, ℕ, ◌%◌, ◌==◌, ◌&&◌, nat_le, Bool}
use Rattle.obj_mem.specs.declared.map.Map.{Map}
use Rattle.bounds_place.specs.declared.sizes.Sizes.{Sizes}

abbrev pub is_heap : ℕ → Bool
is_heap n = n % 65536 == 0 && nat_le 16777216 n && nat_le n 67108864

abbrev pub is_stack : ℕ → Bool
is_stack n = n % 65536 == 0 && nat_le 65536 n && nat_le n 33554432

abbrev pub in_range : Sizes → Bool
in_range s = is_heap s.heap && is_stack s.stack

-- the sizes where none are chosen
abbrev pub usual : Sizes
usual = record { heap = 16777216; stack = 1048576 }

-- a map's heap and stack have these lengths
pub record HasSizes (sizes : Sizes) (map : Map) : Type 0 where
  pub heap : map.heap.1 ≡ sizes.heap
  pub stack : map.stack.1 ≡ sizes.stack
