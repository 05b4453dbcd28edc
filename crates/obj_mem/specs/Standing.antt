-- What holds of the objects of a run under a legal map, and of the values that a run makes in the strict mode; and that
-- operations on such values agree in both modes: where the strict mode answers, the placed one answers alike, whatever
-- the map.
use Rattle.std.specs.Prelude.{◌≡◌, ℕ, ◌+◌, ◌-◌, ◌%◌, ◌^◌, ◌<◌, ◌≤◌, Bool, true, List, [], ◌∷◌, Some, slice_get}
use Rattle.ck_int.specs.declared.kinds.CmpOp.{CmpOp}
use Rattle.cap_concentrate.specs.Rounding.{alignment, owned, least_base, least_top}
use Rattle.obj_mem.specs.Values.{Value, Int, Live, Fun, Raw, Addresses}
use Rattle.obj_mem.specs.Objects.{Shape, Placed, Strict}
use Rattle.obj_mem.specs.Pointers.{is_near, move, narrow, clear, mask, get_address, set_address, get_base, get_length}
use Rattle.obj_mem.specs.Pointers.{get_offset}
use Rattle.obj_mem.specs.Comparisons.{equal, is_true, less, compare, distance, difference, identical}
use Rattle.c_tree.specs.declared.typed.Typed.{Typed}
use Rattle.obj_mem.specs.declared.map.Map.{Map}
use Rattle.obj_mem.specs.Legal.{Apart, ObjectNeed, owned_of, IsLegal}
use Rattle.obj_mem.specs.Needs.{needs_of}
use Rattle.obj_mem.specs.Agreement.{Paired, SameShape, IsNotReturned, Answers}

-- ---- objects

-- an object of `length` bytes at a base, where a legal map, a frame or the heap puts it
pub record IsBased (base owns length : ℕ) : Type 0 where
  pub from : 65536 ≤ base
  pub to : base + owns ≤ 2 ^ 40
  pub owned_is : owns ≡ owned length
  pub aligned : base % alignment length ≡ 0

-- the objects and functions of a placed run. The extents of objects are apart but for locals of functions that have
-- returned, and each is off the text
pub record IsSpread (shapes : List Shape) (functions : ℕ) (a : Addresses) : Type 0 where
  pub placed : (k : ℕ) (s : Shape) → slice_get shapes k ≡ Some s → IsBased s.base s.owned s.length
  pub apart : (j k : ℕ) (s t : Shape) → slice_get shapes j ≡ Some s → slice_get shapes k ≡ Some t → (j ≡ k → ⊥) →
      IsNotReturned s.life → IsNotReturned t.life → Apart s.base s.owned t.base t.owned
  pub off_text : (k : ℕ) (s : Shape) → slice_get shapes k ≡ Some s → Apart s.base s.owned a.text (a.text_end - a.text)
  pub in_text : (f : ℕ) → f < functions → (a.text ≤ a.entry f) × (a.entry f < a.text_end)
  pub text_from : 65536 ≤ a.text
  pub text_to : a.text_end ≤ 2 ^ 40
  pub distinct : (f g : ℕ) → f < functions → g < functions → a.entry f ≡ a.entry g → f ≡ g

-- ---- values

-- Bounds that have an encoding at each base to which their object may be aligned: no address is in this
pub record IsFitted (owns low high : ℕ) : Type 0 where
  pub ordered : low ≤ high
  pub inside : high ≤ owns
  pub whole : owned (high - low) ≡ high - low
  pub multiple : low % alignment (high - low) ≡ 0

pub record IsSettled (shapes : List Shape) (object low high offset permissions : ℕ) : Type 0 where
  pub shape : Shape
  pub there : slice_get shapes object ≡ Some shape
  pub fitted : IsFitted shape.owned low high
  pub near : is_near low high offset ≡ true
  pub word : offset < 2 ^ 64
  pub twelve_bits : permissions < 4096

-- a value that a strict run of a program with so many functions makes
abbrev pub IsGood : List Shape → ℕ → Value → Type 0
IsGood shapes functions (Int n) = n < 2 ^ 64
IsGood shapes functions (Live object low high offset permissions) = IsSettled shapes object low high offset permissions
IsGood shapes functions (Fun f) = f < functions
IsGood shapes functions (Raw address upper) = (address < 2 ^ 64) × (upper < 2 ^ 64)

-- ---- the laws

-- the shapes of a strict run, and those of a placed one
pub record PointersAgree (s t : List Shape) (functions : ℕ) (a : Addresses) : Type 0 where
  pub moves : (v : Value) → IsGood s functions v → (by : ℕ) → Answers ◌≡◌ (move Strict s v by) (move (Placed a) t v by)
  pub narrows : (v : Value) → IsGood s functions v → (length : ℕ) (exact : Bool) →
      Answers ◌≡◌ (narrow Strict s v length exact) (narrow (Placed a) t v length exact)
  pub clears : (v : Value) → Answers ◌≡◌ (clear Strict s v) (clear (Placed a) t v)
  pub masks : (v : Value) (bits : ℕ) → Answers ◌≡◌ (mask Strict s v bits) (mask (Placed a) t v bits)
  pub addresses : (v : Value) → Answers ◌≡◌ (get_address Strict s v) (get_address (Placed a) t v)
  pub sets : (v : Value) (to : ℕ) → Answers ◌≡◌ (set_address Strict s v to) (set_address (Placed a) t v to)
  pub bases : (v : Value) → Answers ◌≡◌ (get_base Strict s v) (get_base (Placed a) t v)
  pub lengths : (v : Value) → Answers ◌≡◌ (get_length Strict s v) (get_length (Placed a) t v)
  pub offsets : (v : Value) → Answers ◌≡◌ (get_offset Strict s v) (get_offset (Placed a) t v)
  pub equalities : (v w : Value) → IsGood s functions v → IsGood s functions w →
      Answers ◌≡◌ (equal Strict s v w) (equal (Placed a) t v w)
  pub conditions : (v : Value) → IsGood s functions v → Answers ◌≡◌ (is_true Strict s v) (is_true (Placed a) t v)
  pub orders : (signed : Bool) (v w : Value) → IsGood s functions v → IsGood s functions w →
      Answers ◌≡◌ (less Strict s signed v w) (less (Placed a) t signed v w)
  pub comparisons : (signed : Bool) (op : CmpOp) (v w : Value) → IsGood s functions v → IsGood s functions w →
      Answers ◌≡◌ (compare Strict s signed op v w) (compare (Placed a) t signed op v w)
  pub distances : (v w : Value) → IsGood s functions v → IsGood s functions w →
      Answers ◌≡◌ (distance Strict s v w) (distance (Placed a) t v w)
  pub differences : (size : ℕ) (v w : Value) → IsGood s functions v → IsGood s functions w →
      Answers ◌≡◌ (difference Strict s size v w) (difference (Placed a) t size v w)
  pub identities : (v w : Value) → IsGood s functions v → IsGood s functions w →
      Answers ◌≡◌ (identical Strict s v w) (identical (Placed a) t v w)

abbrev pub PointersAgreeEverywhere : Type 0
PointersAgreeEverywhere =
    (s t : List Shape) (functions : ℕ) (a : Addresses) → Paired SameShape s t → IsSpread t functions a →
    PointersAgree s t functions a

-- ---- under a legal map

-- An object at a base has bounds of its own there: the least bounds of its owned length are these
pub record HasBounds (n : ObjectNeed) (base : ℕ) : Type 0 where
  pub based : IsBased base (owned_of n) n.length
  pub base_exact : least_base base (base + owned_of n) ≡ base
  pub top_exact : least_top base (base + owned_of n) ≡ base + owned_of n

abbrev pub HaveBounds : List ObjectNeed → List ℕ → Type 0
HaveBounds [] [] = Unit {0}
HaveBounds [] (b ∷ bs) = ⊥
HaveBounds (n ∷ ns) [] = ⊥
HaveBounds (n ∷ ns) (b ∷ bs) = HasBounds n b × HaveBounds ns bs

-- each global and each literal of a program
abbrev pub ObjectsAreExact : Type 0
ObjectsAreExact = (weight : ℕ → ℕ) (p : Typed) (m : Map) → IsLegal (needs_of weight p) m
    → HaveBounds (needs_of weight p).globals m.globals × HaveBounds (needs_of weight p).literals m.literals
