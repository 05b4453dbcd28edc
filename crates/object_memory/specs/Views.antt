-- What the parts of memory are that the code keeps, as the definitions say them.
use Rattle.std.specs.Prelude.{ℕ, ◌+◌, ◌*◌, ◌/◌, List, replicate, Option, Some, None, slice_set}
use Rattle.obj_mem.specs.Values.{value_of}
use Rattle.obj_mem.specs.Objects.{Cell, Byte, Unwritten, PartOf, Life, Active, Inactive, Returned, Shape, Content}
use Rattle.obj_mem.specs.Objects.{put_at}
use Rattle.object_memory.specs.declared.object.Cell as kept
use Rattle.object_memory.specs.declared.object.Cell.TheVariants as cell
use Rattle.object_memory.specs.declared.object.Life as state
use Rattle.object_memory.specs.declared.object.Life.TheVariants as life

-- ---- bytes and objects

abbrev pub cell_of : kept.Cell → Cell
cell_of (cell.Byte b) = Byte b
cell_of cell.Unwritten = Unwritten
cell_of (cell.PartOf v k) = PartOf (value_of v) k

abbrev pub life_of : state.Life → Life
life_of life.Active = Active
life_of life.Inactive = Inactive
life_of life.Returned = Returned

-- what an object is, and what stands in it
pub record ObjectView : Type 0 where
  pub shape : Shape
  pub content : Content

-- an object in which each byte is the same, and no value stands
abbrev pub filled : Cell → ℕ → Content
filled c owns = record { cells = replicate owns c; values = replicate ((owns + 15) / 16) None }

-- cells put in place, over those of the value that their granule held
abbrev pub put_over : Option (List Cell) → Content → ℕ → List Cell → Content
put_over None c at cs = record c { cells = put_at c.cells at cs }
put_over (Some parts) c at cs =
    record { cells = put_at (put_at c.cells (16 * (at / 16)) parts) at cs; values = slice_set c.values (at / 16) None }
