-- The parts that a map is made of.
use Rattle.std.specs.Prelude.{ℕ, ◌≡◌, ◌+◌, ◌*◌, ◌^◌, ◌<◌, ◌≤◌, List, length, map, sum_by}
use Rattle.std.specs.List.{All}
use Rattle.cap_concentrate.specs.Rounding.{owned}
use Rattle.c_tree.specs.Layout.{size_limit}
use Rattle.obj_mem.specs.declared.map.Map.{Map}
use Rattle.obj_mem.specs.declared.map.Frame.{Frame}
use Rattle.bounds_place.specs.Rows.{room}
use Rattle.program_needs.specs.declared.needs.Need.{Need}
use Rattle.bounds_place.specs.declared.sizes.Sizes.{Sizes}

-- the length of a table of so many entries
pub record IsTable (entries size : ℕ) : Type 0 where
  pub is : size ≡ owned (16 * entries)
  pub small : size ≤ 2 ^ 35

-- what objects ask for is within the limit
pub record AreData (globals literals : List Need) : Type 0 where
  pub globals_positive : All (λ n. 0 < n.align) globals
  pub literals_positive : All (λ n. 0 < n.align) literals
  pub within : sum_by room globals + sum_by room literals ≤ size_limit
  pub count : length globals + length literals ≤ size_limit

-- text and table at their places, and the heap with the stack behind it
pub record HasParts (table : ℕ) (globals literals : List ℕ) (frames : List Frame) (entries : List ℕ) (text : ℕ)
    (sizes : Sizes) (m : Map) : Type 0 where
  pub text_base : m.text.0 ≡ 1073741824
  pub text_length : m.text.1 ≡ text
  pub entries_are : m.entries ≡ map (λ at. 1073741824 + at) entries
  pub globals_are : m.globals ≡ globals
  pub literals_are : m.literals ≡ literals
  pub table_base : m.table.0 ≡ 4294967296
  pub table_length : m.table.1 ≡ table
  pub heap_base : m.heap.0 ≡ 16777216
  pub heap_length : m.heap.1 ≡ sizes.heap
  pub stack_base : m.stack.0 ≡ 16777216 + sizes.heap
  pub stack_length : m.stack.1 ≡ sizes.stack
  pub frames_are : m.frames ≡ frames
