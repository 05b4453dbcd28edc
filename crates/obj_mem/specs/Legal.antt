-- Which maps are legal for a program: where its parts may stand, so that each object has exact bounds of its own and
-- none takes a byte of another.
use Rattle.std.specs.Prelude.{ℕ, ◌≡◌, ◌+◌, ◌*◌, ◌%◌, ◌^◌, ◌<◌, ◌≤◌, ◌⊎◌, ◌==◌, List, [], ◌∷◌, ◌++◌, length, find}
use Rattle.std.specs.Prelude.{Option, Some, slice_get}
use Rattle.cap_concentrate.specs.Rounding.{Encodable, owned}
use Rattle.c_tree.specs.Layout.{object_alignment}
use Rattle.obj_mem.specs.declared.map.Map.{Map}
use Rattle.obj_mem.specs.declared.map.Frame.{Frame}
use Rattle.obj_mem.specs.declared.map.Slot.{Slot}

-- ---- what a program asks of its map

-- an object: its length, the alignment of its type, and the permissions of its pointers
pub record ObjectNeed : Type 0 where
  pub length : ℕ
  pub align : ℕ
  pub permissions : ℕ

-- a function: its locals that are objects, in the order of their declarations, and its weight
pub record FunctionNeed : Type 0 where
  pub locals : List ObjectNeed
  pub weight : ℕ

pub record Needs : Type 0 where
  pub globals : List ObjectNeed
  pub literals : List ObjectNeed
  pub functions : List FunctionNeed

abbrev pub owned_of : ObjectNeed → ℕ
owned_of n = owned n.length

abbrev pub alignment_of : ObjectNeed → ℕ
alignment_of n = object_alignment n.align n.length

-- what objects take at most, wherever they stand: each its owned length and its alignment
abbrev pub room_of : List ObjectNeed → ℕ
room_of [] = 0
room_of (n ∷ ns) = owned_of n + alignment_of n + room_of ns

-- ---- extents: a base and a length

abbrev pub Apart : (base length base' length' : ℕ) → Type 0
Apart base length base' length' = (base + length ≤ base') ⊎ (base' + length' ≤ base)

abbrev pub AreApart : ℕ × ℕ → ℕ × ℕ → Type 0
AreApart a b = Apart a.0 a.1 b.0 b.1

abbrev pub IsApartFrom : ℕ × ℕ → List (ℕ × ℕ) → Type 0
IsApartFrom a [] = Unit {0}
IsApartFrom a (b ∷ rest) = AreApart a b × IsApartFrom a rest

-- no two of them have a byte in common
abbrev pub AllApart : List (ℕ × ℕ) → Type 0
AllApart [] = Unit {0}
AllApart (a ∷ rest) = IsApartFrom a rest × AllApart rest

-- all from 65,536 to below 2^40
abbrev pub AllInRange : List (ℕ × ℕ) → Type 0
AllInRange [] = Unit {0}
AllInRange (a ∷ rest) = (65536 ≤ a.0) × (a.0 + a.1 ≤ 2 ^ 40) × AllInRange rest

-- objects at their bases, with their owned lengths
abbrev pub placed_at : List ObjectNeed → List ℕ → List (ℕ × ℕ)
placed_at [] bases = []
placed_at (n ∷ ns) [] = []
placed_at (n ∷ ns) (b ∷ bs) = (b, owned_of n) ∷ placed_at ns bs

-- one base for each, and each a multiple of its object's alignment
abbrev pub AreAligned : List ObjectNeed → List ℕ → Type 0
AreAligned [] [] = Unit {0}
AreAligned [] (b ∷ bs) = ⊥
AreAligned (n ∷ ns) [] = ⊥
AreAligned (n ∷ ns) (b ∷ bs) = (b % alignment_of n ≡ 0) × AreAligned ns bs

-- globals, then literals
abbrev pub objects_of : Needs → Map → List (ℕ × ℕ)
objects_of n m = placed_at n.globals m.globals ++ placed_at n.literals m.literals

-- all parts of a map
abbrev pub parts_of : Needs → Map → List (ℕ × ℕ)
parts_of n m = m.text ∷ m.table ∷ m.heap ∷ m.stack ∷ objects_of n m

-- ---- frames

-- the slot of a local
abbrev pub slot_of : Frame → ℕ → Option Slot
slot_of f var = find (λ s. s.var == var) f.slots

-- it holds the local's owned length at a multiple of its alignment, inside the frame and past what is saved
pub record IsSlot (n : ObjectNeed) (f : Frame) (s : Slot) : Type 0 where
  pub length : s.length ≡ owned_of n
  pub aligned : s.at % alignment_of n ≡ 0
  pub alignment : alignment_of n ≤ f.align
  pub past_saved : f.saved ≤ s.at
  pub within : s.at + s.length ≤ f.size

abbrev pub HasSlot : ObjectNeed → Frame → ℕ → Type 0
HasSlot n f var = (s : Slot) × (slot_of f var ≡ Some s) × IsSlot n f s

-- A frame of a function
pub record IsFrame (n : FunctionNeed) (f : Frame) : Type 0 where
  -- exactly one slot for each local that is an object
  pub slots : length f.slots ≡ length n.locals
  pub has_slot : (var : ℕ) (o : ObjectNeed) → slice_get n.locals var ≡ Some o → HasSlot o f var
  -- no two slots have a byte in common
  pub apart : (var var' : ℕ) (s s' : Slot) → slot_of f var ≡ Some s → slot_of f var' ≡ Some s' → (var ≡ var' → ⊥) →
      Apart s.at s.length s'.at s'.length
  -- a power of two, at least 16, of which the size is a multiple
  pub power : (k : ℕ) × (f.align ≡ 2 ^ k)
  pub align : 16 ≤ f.align
  pub size_multiple : f.size % f.align ≡ 0
  pub saved : f.saved ≤ f.size
  -- the size is from 16 bytes up to what the weight allows
  pub least : 16 ≤ f.size
  pub most : f.size ≤ room_of n.locals + 32 * n.weight + 512

-- one for each function
abbrev pub AreFrames : List FunctionNeed → List Frame → Type 0
AreFrames [] [] = Unit {0}
AreFrames [] (f ∷ fs) = ⊥
AreFrames (n ∷ ns) [] = ⊥
AreFrames (n ∷ ns) (f ∷ fs) = IsFrame n f × AreFrames ns fs

-- ---- entries

-- a multiple of 4 in the text
pub record IsEntry (text : ℕ × ℕ) (entry : ℕ) : Type 0 where
  pub multiple : entry % 4 ≡ 0
  pub from : text.0 ≤ entry
  pub below : entry < text.0 + text.1

-- ---- legal maps

pub record IsLegal (n : Needs) (m : Map) : Type 0 where
  -- one entry and one frame for each function, one base for each global and each literal, in their order
  pub entries : length m.entries ≡ length n.functions
  pub frames : AreFrames n.functions m.frames
  -- globals and literals have their owned lengths and alignments
  pub globals : AreAligned n.globals m.globals
  pub literals : AreAligned n.literals m.literals
  -- all extents lie from 65,536 to below 2^40, and are pairwise disjoint
  pub in_range : AllInRange (parts_of n m)
  pub apart : AllApart (parts_of n m)
  -- text and table have bounds of their own
  pub text_aligned : m.text.0 % 16 ≡ 0
  pub text_exact : Encodable m.text.0 (m.text.0 + m.text.1)
  pub table_aligned : m.table.0 % 16 ≡ 0
  pub table_exact : Encodable m.table.0 (m.table.0 + m.table.1)
  -- entries are distinct multiples of 4 in the text
  pub in_text : (f entry : ℕ) → slice_get m.entries f ≡ Some entry → IsEntry m.text entry
  pub distinct : (f g entry : ℕ) → slice_get m.entries f ≡ Some entry → slice_get m.entries g ≡ Some entry → f ≡ g
  -- the heap
  pub heap_length : m.heap.1 % 65536 ≡ 0
  pub heap_least : 16777216 ≤ m.heap.1
  pub heap_most : m.heap.1 ≤ 67108864
  pub heap_base : m.heap.0 % 65536 ≡ 0
  pub large_heap : 16777216 < m.heap.1 → m.heap.0 % 131072 ≡ 0
  -- the stack
  pub stack_base : m.stack.0 % 65536 ≡ 0
  pub stack_length : m.stack.1 % 65536 ≡ 0
  pub stack_least : 65536 ≤ m.stack.1
  pub stack_most : m.stack.1 ≤ 33554432
