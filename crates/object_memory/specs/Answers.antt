-- What the code's answers and arguments are, as the definitions say them.
use Rattle.std.specs.Prelude.{ℕ, ◌+◌, ◌^◌, ◌<◌, List, map, take, Option, Some, None, option_map, Result}
use Rattle.obj_mem.specs.declared.value.Value as public
use Rattle.obj_mem.specs.declared.map.Mode as known
use Rattle.obj_mem.specs.declared.map.Mode.TheVariants as mode
use Rattle.obj_mem.specs.declared.ending.Fault.{Fault}
use Rattle.obj_mem.specs.Values.{Value, Int, Live, Fun, Raw, Addresses, value_of}
use Rattle.obj_mem.specs.Objects.{Cell, Byte, Unwritten, Shape, Content, Mode, Placed, Strict, base_in}
use Rattle.obj_mem.specs.Access.{Spot}
use Rattle.obj_mem.specs.Pointers.{at_offset}
use Rattle.obj_mem.specs.Table.{addresses_of}
use Rattle.mean_work.specs.Answers.{mapped}
use Rattle.object_memory.specs.declared.object.Cell as kept
use Rattle.object_memory.specs.declared.bytes.Bytes as few
use Rattle.object_memory.specs.declared.reach.Spot as reached
use Rattle.object_memory.specs.Views.{ObjectView, cell_of}

-- ---- answers

-- a value that the code answers
abbrev pub seen : Result public.Value Fault → Result Value Fault
seen r = mapped value_of r

abbrev pub value_seen : Option public.Value → Option Value
value_seen o = option_map value_of o

-- ---- what a run knows of addresses

abbrev pub mode_of : known.Mode → Mode
mode_of (mode.Placed m) = Placed (addresses_of m.now)
mode_of mode.Strict = Strict

-- ---- objects

abbrev pub shape_of : ObjectView → Shape
shape_of o = o.shape

abbrev pub content_of : ObjectView → Content
content_of o = o.content

abbrev pub shapes_of : List ObjectView → List Shape
shapes_of os = map shape_of os

abbrev pub contents_of : List ObjectView → List Content
contents_of os = map content_of os

-- ---- bytes on their way

abbrev pub cells_of : List kept.Cell → List Cell
cells_of cs = map cell_of cs

abbrev pub plain_cell : Option ℕ → Cell
plain_cell None = Unwritten
plain_cell (Some b) = Byte b

abbrev pub plain_cells : few.Bytes → List Cell
plain_cells b = map plain_cell (take b.count b.items)

-- ---- places

abbrev pub spot_of : reached.Spot → Spot
spot_of s = record { object = s.object; low = s.low; high = s.high; at = s.at; carries = s.carries }

-- ---- values

-- a pointer with another offset
abbrev pub moved_to : Addresses → (ℕ → ℕ) → Value → ℕ → Value
moved_to a base (Live object low high offset permissions) to = at_offset a base object low high offset permissions to
moved_to a base (Int n) to = Int n
moved_to a base (Fun f) to = Fun f
moved_to a base (Raw address upper) to = Raw address upper

-- the base of its bounds is a number of 64 bits, as it is wherever an object stands under a map
abbrev pub HasBase : List Shape → Value → Type 0
HasBase shapes (Live object low high offset permissions) = base_in shapes object + low < 2 ^ 64
HasBase shapes (Int n) = Unit {0}
HasBase shapes (Fun f) = Unit {0}
HasBase shapes (Raw address upper) = Unit {0}
