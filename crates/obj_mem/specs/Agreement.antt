-- Where the strict mode answers, the placed one answers alike, whatever the addresses: loads, stores, copies, and
-- objects that come and go.
use Rattle.std.specs.Prelude.{◌≡◌, ℕ, List, [], ◌∷◌, Some, Result, Ok, Err, slice_get}
use Rattle.obj_mem.specs.declared.ending.Fault.{Fault}
use Rattle.obj_mem.specs.declared.ending.Fault.TheVariants as F
use Rattle.obj_mem.specs.declared.ending.UnitFault.{UnitFault}
use Rattle.obj_mem.specs.declared.ending.UnitFault.TheVariants as U
use Rattle.obj_mem.specs.Values.{Value, Addresses}
use Rattle.obj_mem.specs.Objects.{Cell, Byte, Unwritten, PartOf, Life, Active, Inactive, Returned, Shape, Content}
use Rattle.obj_mem.specs.Objects.{Memory, Placed, Strict, add, end, rest, leave, zero_object, note_member}
use Rattle.obj_mem.specs.Access.{load, store, copy_unit}

-- ---- memories

abbrev pub IsPlain : Cell → Type 0
IsPlain (Byte b) = Unit {0}
IsPlain Unwritten = Unit {0}
IsPlain (PartOf v k) = ⊥

-- Of the cells of the strict mode only a written byte is seen by a run that goes on
abbrev pub SameCell : Cell → Cell → Type 0
SameCell (Byte b) c = c ≡ Byte b
SameCell Unwritten c = IsPlain c
SameCell (PartOf v k) c = IsPlain c

abbrev pub Paired : {A B : Type 0} → (A → B → Type 0) → List A → List B → Type 0
Paired R [] [] = Unit {0}
Paired R [] (y ∷ ys) = ⊥
Paired R (x ∷ xs) [] = ⊥
Paired R (x ∷ xs) (y ∷ ys) = R x y × Paired R xs ys

pub record SameContent (c c' : Content) : Type 0 where
  pub cells : Paired SameCell c.cells c'.cells
  pub values : c.values ≡ c'.values

abbrev pub IsNotReturned : Life → Type 0
IsNotReturned Active = Unit {0}
IsNotReturned Inactive = Unit {0}
IsNotReturned Returned = ⊥

-- a local whose block was left may still be active in the placed mode
abbrev pub SameLife : Life → Life → Type 0
SameLife Active l = l ≡ Active
SameLife Inactive l = IsNotReturned l
SameLife Returned l = l ≡ Returned

pub record SameShape (s s' : Shape) : Type 0 where
  pub length : s.length ≡ s'.length
  pub owned : s.owned ≡ s'.owned
  pub life : SameLife s.life s'.life

-- the same objects, but for their bases
pub record SameMemory (m n : Memory) : Type 0 where
  pub shapes : Paired SameShape m.shapes n.shapes
  pub contents : Paired SameContent m.contents n.contents

-- ---- answers

-- of the strict mode and of the placed one: where the strict mode ends, nothing is said
abbrev pub Answers : {A B : Type 0} → (A → B → Type 0) → Result A Fault → Result B Fault → Type 0
Answers R (Err (F.Unspecified r)) b = Unit {0}
Answers R (Err F.Outside) b = Unit {0}
Answers R (Err (F.Cause c)) b = b ≡ Err (F.Cause c)
Answers R (Ok x) (Ok y) = R x y
Answers R (Ok x) (Err f) = ⊥

-- also of a copy
abbrev pub CopyAnswers : {A B : Type 0} → (A → B → Type 0) → Result A UnitFault → Result B UnitFault → Type 0
CopyAnswers R (Err (U.Load (F.Unspecified r))) b = Unit {0}
CopyAnswers R (Err (U.Store (F.Unspecified r))) b = Unit {0}
CopyAnswers R (Err (U.Load F.Outside)) b = Unit {0}
CopyAnswers R (Err (U.Store F.Outside)) b = Unit {0}
CopyAnswers R (Err (U.Load (F.Cause c))) b = b ≡ Err (U.Load (F.Cause c))
CopyAnswers R (Err (U.Store (F.Cause c))) b = b ≡ Err (U.Store (F.Cause c))
CopyAnswers R (Ok x) (Ok y) = R x y
CopyAnswers R (Ok x) (Err f) = ⊥

-- ---- the laws

-- no object with this number is a local of a function that has returned
abbrev pub Stands : Memory → ℕ → Type 0
Stands m k = (s : Shape) → slice_get m.shapes k ≡ Some s → IsNotReturned s.life

pub record MemoryAgrees (a : Addresses) : Type 0 where
  pub loads : (m n : Memory) → SameMemory m n → (p : Value) (k : ℕ) →
      Answers ◌≡◌ (load Strict m p k) (load (Placed a) n p k)
  pub stores : (m n : Memory) → SameMemory m n → (p : Value) (k : ℕ) (v : Value) →
      Answers SameMemory (store Strict m p k v) (store (Placed a) n p k v)
  pub copies : (m n : Memory) → SameMemory m n → (p q : Value) (k : ℕ) →
      CopyAnswers SameMemory (copy_unit Strict m p q k) (copy_unit (Placed a) n p q k)
  pub adds : (m n : Memory) → SameMemory m n → (length base base' : ℕ) →
      SameMemory (add Strict m length base) (add (Placed a) n length base')
  pub zeros : (m n : Memory) → SameMemory m n → (k : ℕ) →
      SameMemory (zero_object Strict m k) (zero_object (Placed a) n k)
  pub rests : (m n : Memory) → SameMemory m n → (k : ℕ) → SameMemory (rest m k) (rest n k)
  pub leaves : (m n : Memory) → SameMemory m n → (k : ℕ) → Stands n k →
      SameMemory (leave Strict m k) (leave (Placed a) n k)
  pub ends : (m n : Memory) → SameMemory m n → (k : ℕ) → SameMemory (end m k) (end n k)
  pub notes : (m n : Memory) → SameMemory m n → (v : Value) (own : ℕ) →
      SameMemory (note_member Strict m v own) (note_member (Placed a) n v own)
