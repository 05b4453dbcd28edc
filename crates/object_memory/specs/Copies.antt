-- What a copy of a unit takes.
use Rattle.std.specs.Prelude.{ℕ, ◌/◌, Result, Ok}
use Rattle.obj_mem.specs.declared.ending.Fault.{Fault}
use Rattle.obj_mem.specs.Objects.{Memory, Mode, value_at}
use Rattle.obj_mem.specs.Access.{Piece, Plain, Spot, at_spot, carried, onward, piece_of as piece_at}
use Rattle.object_memory.specs.declared.bytes.Bytes as few
use Rattle.object_memory.specs.Answers.{plain_cells}

abbrev pub plain_piece : few.Bytes → Piece
plain_piece bytes = Plain (plain_cells bytes)

-- at a place
abbrev pub carried_at : Mode → Memory → Spot → ℕ → Result Piece Fault
carried_at d m s n = onward (at_spot d m s n (λ c. Ok (piece_at d m c s n (value_at c (s.at / 16))))) carried
