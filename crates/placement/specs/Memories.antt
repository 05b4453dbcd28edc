-- When the memory of a strict run and that of a placed run stand for one another.
use Rattle.std.specs.Prelude.{◌≡◌, ℕ, ◌+◌, ◌-◌, ◌%◌, ◌^◌, ◌<◌, ◌≤◌, List, [], ◌∷◌, Option, Some, None, slice_get}
use Rattle.obj_mem.specs.Values.{Value, Addresses}
use Rattle.obj_mem.specs.Objects.{Cell, Byte, Unwritten, PartOf, Shape, Content}
use Rattle.cap_concentrate.specs.Rounding.{alignment, owned}
use Rattle.obj_mem.specs.declared.map.Frame.{Frame}
use Rattle.obj_mem.specs.Legal.{Apart, slot_of}
use Rattle.obj_mem.specs.Agreement.{IsNotReturned, SameMemory}
use Rattle.obj_mem.specs.Standing.{IsGood, IsSpread}
use Rattle.cheri_c_sem.specs.Modes.{Store, slot_offset}
use Rattle.cheri_c_sem.specs.Tree.{Fun}
use Rattle.placement.specs.Relations.{Relation}

-- ---- what stands in objects

abbrev pub CellGood : Cell → Type 0
CellGood (Byte b) = b < 256
CellGood Unwritten = Unit {0}
CellGood (PartOf v k) = Unit {0}

abbrev pub CellsGood : List Cell → Type 0
CellsGood [] = Unit {0}
CellsGood (c ∷ cs) = CellGood c × CellsGood cs

abbrev pub ValuesGood : List Shape → ℕ → List (Option Value) → Type 0
ValuesGood shapes functions [] = Unit {0}
ValuesGood shapes functions (None ∷ vs) = ValuesGood shapes functions vs
ValuesGood shapes functions (Some v ∷ vs) = IsGood shapes functions v × ValuesGood shapes functions vs

pub record ContentGood (shapes : List Shape) (functions : ℕ) (c : Content) : Type 0 where
  pub cells : CellsGood c.cells
  pub values : ValuesGood shapes functions c.values

abbrev pub ContentsGood : List Shape → ℕ → List Content → Type 0
ContentsGood shapes functions [] = Unit {0}
ContentsGood shapes functions (c ∷ cs) = ContentGood shapes functions c × ContentsGood shapes functions cs

-- ---- objects as a run goes on in a call

-- an object is where it was, and it has returned where it had
pub record Kept (g h : Shape) : Type 0 where
  pub base : h.base ≡ g.base
  pub owned : h.owned ≡ g.owned
  pub length : h.length ≡ g.length
  pub stays : IsNotReturned g.life → IsNotReturned h.life
  pub stayed : IsNotReturned h.life → IsNotReturned g.life

pub record KeepsShapes (s t : List Shape) : Type 0 where
  pub kept : (i : ℕ) (g : Shape) → slice_get s i ≡ Some g → (h : Shape) × (slice_get t i ≡ Some h) × Kept g h

-- and no new one that has not returned takes a byte of the stack, which has this base and length
pub record KeepsStack (stack size : ℕ) (s t : List Shape) : Type 0 where
  pub fresh : (i : ℕ) (h : Shape) → slice_get s i ≡ None → slice_get t i ≡ Some h → IsNotReturned h.life
      → Apart h.base h.owned stack size

-- no object that has not returned takes one of these bytes
pub record IsClear (shapes : List Shape) (from length : ℕ) : Type 0 where
  pub clear : (i : ℕ) (h : Shape) → slice_get shapes i ≡ Some h → IsNotReturned h.life
      → Apart h.base h.owned from length

-- ---- where text, heap and stack lie

pub record IsLaid (a : Addresses) (stack size : ℕ) : Type 0 where
  pub heap_from : 65536 ≤ a.heap
  pub heap_to : a.heap_end ≤ 2 ^ 40
  pub enough : a.heap + 16777216 ≤ a.heap_end
  pub stack_from : 65536 ≤ stack
  pub stack_to : stack + size ≤ 2 ^ 40
  pub heap_stack : Apart a.heap (a.heap_end - a.heap) stack size
  pub heap_text : Apart a.heap (a.heap_end - a.heap) a.text (a.text_end - a.text)
  pub stack_text : Apart stack size a.text (a.text_end - a.text)

-- ---- two memories

-- an object with this number is there
abbrev pub IsThere : List Shape → ℕ → Type 0
IsThere shapes i = (h : Shape) × (slice_get shapes i ≡ Some h)

-- and is not a local of a function that has returned
abbrev pub IsAlive : List Shape → ℕ → Type 0
IsAlive shapes i = (h : Shape) × (slice_get shapes i ≡ Some h) × IsNotReturned h.life

module _ (globals functions : ℕ) (a : Addresses) (stack size : ℕ) where
  -- Memory of a strict run, and that of a placed one in a call whose objects are so many from a number on and whose
  -- frame has this address
  pub record Stand (objects first frame : ℕ) (s p : Store) : Type 0 where
    pub same : SameMemory s.memory p.memory
    pub spread : IsSpread p.memory.shapes functions a
    pub contents : ContentsGood s.memory.shapes functions s.memory.contents
    pub globals_there : (i : ℕ) → i < globals → IsThere s.memory.shapes i
    pub locals_alive : (i : ℕ) → i < objects → IsAlive s.memory.shapes (first + i)
    -- the rest of the heap is clear, and as large as the strict run needs it
    pub heap_from : a.heap ≤ p.heap
    pub heap_least : p.heap ≤ a.heap + s.heap
    pub heap_to : p.heap ≤ a.heap_end
    pub heap_clear : IsClear p.memory.shapes p.heap (a.heap_end - p.heap)
    -- and so is the stack below the frame
    pub frame_to : frame ≤ stack + size
    pub stack_clear : IsClear p.memory.shapes stack (frame - stack)

  pub record Later (s p s' p' : Store) : Type 0 where
    pub strict : KeepsShapes s.memory.shapes s'.memory.shapes
    pub placed : KeepsShapes p.memory.shapes p'.memory.shapes
    pub kept_stack : KeepsStack stack size p.memory.shapes p'.memory.shapes

  abbrev pub memories : Relation Store Store
  memories = record { good = λ s v. IsGood s.memory.shapes functions v; stand = Stand; later = Later }

-- ---- frames

-- where local n is in a frame
abbrev pub local_at : Frame → ℕ → ℕ
local_at f n = slot_offset (slot_of f n)

-- a local of this length has its owned length in the frame, at a multiple of its alignment wherever the frame stands
pub record LocalFits (f : Frame) (n length : ℕ) : Type 0 where
  pub within : local_at f n + owned length ≤ f.size
  pub aligned : local_at f n % alignment length ≡ 0
  pub frame_aligned : f.align % alignment length ≡ 0

-- a frame for objects of these lengths, no two of which have a byte in common
pub record FrameFits (lengths : List ℕ) (f : Frame) : Type 0 where
  pub some : 0 < f.align
  pub locals : (n length : ℕ) → slice_get lengths n ≡ Some length → LocalFits f n length
  pub apart : (n n' length length' : ℕ) → slice_get lengths n ≡ Some length → slice_get lengths n' ≡ Some length'
      → (n ≡ n' → ⊥) → Apart (local_at f n) (owned length) (local_at f n') (owned length')

-- each function of a program has one
abbrev pub FramesFit : List Fun → List Frame → Type 0
FramesFit funs frames = (i : ℕ) (f : Fun) (g : Frame) → slice_get funs i ≡ Some f → slice_get frames i ≡ Some g
    → FrameFits f.objects g
