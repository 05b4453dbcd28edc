-- The text of a map: one line for each part of a program, with its place in memory.
use Rattle.std.specs.Prelude.{ℕ, List, [], ◌++◌, length, min, slice_range, slice_get, Option, Some, None, codes}
use Rattle.std.specs.Prelude.{decimal}
use Rattle.std.specs.List.{filter}
use Rattle.ck_base.specs.declared.positions.Pos.{Pos}
use Rattle.ck_base.specs.declared.positions.Span.{Span}
use Rattle.c_tree.specs.declared.typed.CType.{CType}
use Rattle.c_tree.specs.declared.typed.FunDef.{FunDef}
use Rattle.c_tree.specs.declared.typed.GlobalDef.{GlobalDef}
use Rattle.c_tree.specs.declared.typed.Literal.{Literal}
use Rattle.c_tree.specs.declared.typed.Typed.{Typed}
use Rattle.c_tree.specs.declared.typed.VarDef.{VarDef}
use Rattle.obj_mem.specs.Legal.{owned_of}
use Rattle.obj_mem.specs.Needs.{global_need, literal_need, is_object}
use Rattle.obj_mem.specs.declared.map.Frame.{Frame}
use Rattle.obj_mem.specs.declared.map.Map.{Map}
use Rattle.obj_mem.specs.declared.map.Slot.{Slot}
use Rattle.build_text.specs.Lines.{lines}

-- ---- pieces

-- the bytes of a name, as far as they stand in the file
abbrev pub name_at : List ℕ → Span → List ℕ
name_at file s = (let end = min s.end (length file) in slice_range file (min s.start end) end)

-- a line and a column
abbrev pub pos_text : Pos → List ℕ
pos_text pos = decimal pos.line ++ codes ":" ++ decimal pos.col

-- a base and a length, or another pair of numbers, and the end of the line
abbrev pub pair_end : ℕ → ℕ → List ℕ
pair_end a b = codes " " ++ decimal a ++ codes " " ++ decimal b ++ codes "\n"

-- ---- lines

-- the extent of a part of which there is one
abbrev pub part_line : List ℕ → ℕ × ℕ → List ℕ
part_line word part = word ++ pair_end part.0 part.1

abbrev pub function_line : List ℕ → Option FunDef → Option ℕ → List ℕ
function_line file (Some f) (Some entry) =
    codes "function " ++ name_at file f.name ++ codes " " ++ decimal entry ++ codes "\n"
function_line file f entry = []

-- a global and a literal, with their owned lengths
abbrev pub global_line : List ℕ → List CType → Option GlobalDef → Option ℕ → List ℕ
global_line file types (Some g) (Some base) =
    codes "global " ++ name_at file g.name ++ pair_end base (owned_of (global_need types g))
global_line file types g base = []

abbrev pub literal_line : Option Literal → Option ℕ → List ℕ
literal_line (Some l) (Some base) = codes "literal " ++ pos_text l.pos ++ pair_end base (owned_of (literal_need l))
literal_line l base = []

-- a local that is an object, where it is declared, and its offset and length in the frame
abbrev pub slot_line : List ℕ → Slot → Option VarDef → List ℕ
slot_line file s (Some v) =
    codes "slot " ++ pos_text v.pos ++ codes " " ++ name_at file v.name ++ pair_end s.at s.length
slot_line file s None = []

abbrev pub slot_line_of : List ℕ → List VarDef → Option Slot → List ℕ
slot_line_of file objects (Some s) = slot_line file s (slice_get objects s.var)
slot_line_of file objects None = []

-- the frame of a function, its size and alignment, and its slots
abbrev pub frame_lines : List ℕ → Option FunDef → Option Frame → List ℕ
frame_lines file (Some f) (Some frame) =
    codes "frame " ++ name_at file f.name ++ pair_end frame.size frame.align
    ++ lines (λ k. slot_line_of file (filter is_object f.vars) (slice_get frame.slots k)) (length frame.slots)
frame_lines file f frame = []

-- ---- the text

-- The map of a program that a file is: numbers are decimal, lengths in bytes, and a name is the file's.
abbrev pub map_text : List ℕ → Typed → Map → List ℕ
map_text file p m =
    part_line (codes "text") m.text
    ++ lines (λ k. function_line file (slice_get p.funs k) (slice_get m.entries k)) (length p.funs)
    ++ lines (λ k. global_line file p.types (slice_get p.globals k) (slice_get m.globals k)) (length p.globals)
    ++ lines (λ k. literal_line (slice_get p.literals k) (slice_get m.literals k)) (length p.literals)
    ++ part_line (codes "table") m.table
    ++ part_line (codes "heap") m.heap
    ++ part_line (codes "stack") m.stack
    ++ lines (λ k. frame_lines file (slice_get p.funs k) (slice_get m.frames k)) (length p.funs)
