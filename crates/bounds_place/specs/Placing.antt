-- What a placing answers.
use Rattle.std.specs.Prelude.{ℕ, zero, ◌≡◌, ◌+◌, ◌%◌, ◌<◌, ◌≤◌, Bool, true, ◌||◌, nat_lt, List, [], ◌∷◌, map, slice_get}
use Rattle.std.specs.Prelude.{Some}
use Rattle.std.specs.List.{list_any}
use Rattle.ck_base.specs.declared.positions.Pos.{Pos}
use Rattle.ck_base.specs.declared.refusal.Refusal.{Refusal}
use Rattle.ck_base.specs.declared.refusal.Refusal.TheVariants as refusal
use Rattle.c_tree.specs.Layout.{size_limit}
use Rattle.c_tree.specs.declared.typed.Typed.{Typed}
use Rattle.obj_mem.specs.declared.map.Map.{Map}
use Rattle.obj_mem.specs.declared.map.Frame.{Frame}
use Rattle.obj_mem.specs.Legal.{Needs, room_of, AreApart, objects_of, AreFrames, IsLegal}
use Rattle.obj_mem.specs.Needs.{global_need, literal_need, function_needs, needs_of}
use Rattle.obj_mem.specs.Table.{table_length}
use Rattle.bounds_place.specs.declared.sizes.Sizes.{Sizes}
pub use Rattle.program_needs.specs.Needs.{locals_exceed}

-- ---- the limit of 67,108,864 bytes

abbrev pub data_room : Typed → ℕ
data_room p = room_of (map (global_need p.types) p.globals) + room_of (map literal_need p.literals)

-- globals and literals together, or the locals of one function that are objects, are over it
abbrev pub exceeds : Typed → Bool
exceeds p = nat_lt size_limit (data_room p) || list_any (locals_exceed p.types) p.funs

-- the start of the file
abbrev pub IsStart : Pos → Type 0
IsStart pos = (pos.line ≡ 1) × (pos.col ≡ 1)

-- 141 comes only there, and want of memory is free
abbrev pub IsRefusal : Typed → Refusal → Type 0
IsRefusal p (refusal.Code code pos) = (code ≡ 141) × IsStart pos × (exceeds p ≡ true)
IsRefusal p refusal.NoMemory = Unit {0}

-- ---- what is given

-- offsets of functions in a text of that length: distinct multiples of 4
pub record AreOffsets (entries : List ℕ) (text : ℕ) : Type 0 where
  pub multiple : (f at : ℕ) → slice_get entries f ≡ Some at → at % 4 ≡ 0
  pub below : (f at : ℕ) → slice_get entries f ≡ Some at → at < text
  pub distinct : (f g at : ℕ) → slice_get entries f ≡ Some at → slice_get entries g ≡ Some at → f ≡ g

-- ---- one stretch

-- each extent lies from one address to another
abbrev pub AllWithin : (from to : ℕ) → List (ℕ × ℕ) → Type 0
AllWithin from to [] = Unit {0}
AllWithin from to (a ∷ rest) = (from ≤ a.0) × (a.0 + a.1 ≤ to) × AllWithin from to rest

-- table, globals and literals lie in the bytes from the table's base on, a multiple of 16 of them, which are not many
-- more than the table's, and none of which is the text's, the heap's or the stack's
pub record IsStretch (n : Needs) (m : Map) (size : ℕ) : Type 0 where
  pub multiple : size % 16 ≡ 0
  pub most : size ≤ m.table.1 + 67108880
  pub table : m.table.1 ≤ size
  pub objects : AllWithin m.table.0 (m.table.0 + size) (objects_of n m)
  pub off_text : AreApart (m.table.0, size) m.text
  pub off_heap : AreApart (m.table.0, size) m.heap
  pub off_stack : AreApart (m.table.0, size) m.stack

-- ---- the map

-- A weight of a function changes only what its frame may have
abbrev pub weightless : Typed → Needs
weightless p = needs_of (λ f. zero) p

pub record IsPlacing (p : Typed) (frames : List Frame) (entries : List ℕ) (text : ℕ) (sizes : Sizes) (m : Map) :
    Type 0 where
  -- legal for all weights of functions for which the frames keep their rules
  pub legal : (weight : ℕ → ℕ) → AreFrames (function_needs p.types weight 0 p.funs) frames →
      IsLegal (needs_of weight p) m
  pub frames_are : m.frames ≡ frames
  pub text_is : m.text.1 ≡ text
  pub entries_are : m.entries ≡ map (λ at. m.text.0 + at) entries
  pub table_is : m.table.1 ≡ table_length (weightless p)
  pub heap_is : m.heap.1 ≡ sizes.heap
  pub stack_is : m.stack.1 ≡ sizes.stack
  pub stretch : (size : ℕ) × IsStretch (weightless p) m size
