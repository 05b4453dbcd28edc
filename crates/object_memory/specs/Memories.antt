-- The memory that objects and notes are, and what a call leaves of it.
use Rattle.std.specs.Prelude.{◌≡◌, ℕ, ◌/◌, ◌≤◌, ◌⊎◌, List, map, Result, Ok, Err, slice_set}
use Rattle.obj_mem.specs.declared.ending.Fault.{Fault}
use Rattle.obj_mem.specs.Objects.{Cell, Content, Memory, Mode, value_at}
use Rattle.obj_mem.specs.Access.{Spot, Piece, Tagged, Plain, at_spot, with_piece, has_unwritten, has_part, number_of}
use Rattle.obj_mem.specs.Access.{onward, loaded, piece_of as piece_at}
use Rattle.obj_mem.specs.Values.{Value, value_of}
use Rattle.object_memory.specs.declared.access.Piece as kept
use Rattle.object_memory.specs.declared.access.Piece.TheVariants as piece
use Rattle.object_memory.specs.declared.access.Sum as summed
use Rattle.object_memory.specs.declared.notes.Note as noted
use Rattle.object_memory.specs.Views.{ObjectView}
use Rattle.object_memory.specs.Answers.{shapes_of, contents_of, plain_cells}
use Rattle.object_memory.specs.Notes.{note_of}

abbrev pub memory_at : List ObjectView → List noted.Note → Memory
memory_at objects notes =
    record { shapes = shapes_of objects; contents = contents_of objects; notes = map note_of notes }

-- What a call that changes memory answers and leaves, against what is meant: the memory that is meant; or the fault
-- that is meant, and the memory from before
abbrev pub Leaves : {U E : Type 0} → Result Memory E → Memory → Result U E → Memory → Type 0
Leaves (Ok m) before (Ok u) after = after ≡ m
Leaves (Err e) before (Err f) after = (f ≡ e) × (after ≡ before)
Leaves (Ok m) before (Err f) after = ⊥
Leaves (Err e) before (Ok u) after = ⊥

-- loads and stores have these sizes
abbrev pub IsSize : ℕ → Type 0
IsSize n = (n ≡ 1) ⊎ ((n ≡ 2) ⊎ ((n ≡ 4) ⊎ ((n ≡ 8) ⊎ (n ≡ 16))))

-- ---- bytes as one number

pub record IsSum (s : summed.Sum) (cs : List Cell) : Type 0 where
  pub unwritten : s.unwritten ≡ has_unwritten cs
  pub part : s.part ≡ has_part cs
  pub number : s.number ≡ number_of cs

-- ---- what is put

abbrev pub piece_of : kept.Piece → Piece
piece_of (piece.Tagged v) = Tagged (value_of v)
piece_of (piece.Plain bytes) = Plain (plain_cells bytes)

-- it has at most 16 bytes
abbrev pub IsFew : kept.Piece → Type 0
IsFew (piece.Tagged v) = Unit {0}
IsFew (piece.Plain bytes) = bytes.count ≤ 16

abbrev pub with_content : Memory → ℕ → Content → Memory
with_content m k c = record m { contents = slice_set m.contents k c }

-- what putting a piece at a place comes to
abbrev pub put_there : Mode → Memory → Spot → ℕ → Piece → Result Memory Fault
put_there d m s n u = at_spot d m s n (λ c. Ok (with_content m s.object (with_piece d m.shapes c s.at u)))

-- the object that an access reaches
abbrev pub reached : Mode → Memory → Spot → ℕ → Result Content Fault
reached d m s n = at_spot d m s n (λ c. Ok c)

-- what a load gives there
abbrev pub loaded_at : Mode → Memory → Spot → ℕ → Result Value Fault
loaded_at d m s n = onward (at_spot d m s n (λ c. Ok (piece_at d m c s n (value_at c (s.at / 16))))) (loaded n)
