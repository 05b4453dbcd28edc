-- What holds of the values and of the memory of a placed run.
use Rattle.std.specs.Prelude.{◌≡◌, ◌+◌, ◌^◌, ◌≤◌, ◌<◌, true, List, [], ◌∷◌, Option, Some, None}
use Rattle.obj_mem.specs.Values.{Value, Int, Live, Fun, Raw}
use Rattle.obj_mem.specs.Objects.{Cell, Byte, Unwritten, PartOf, Shape, Content}
use Rattle.obj_mem.specs.Pointers.{keeps}
use Rattle.cheri_c_sem.specs.Modes.{Store}

-- A pointer or capability integer: it has the bounds of an object, in their order; it is a function's; or it has an
-- address of 64 bits
abbrev pub IsPointer : Value → Type 0
IsPointer (Int n) = ⊥
IsPointer (Live object low high offset permissions) = (low ≤ high) × (high ≤ 2 ^ 40) × (permissions < 4096)
IsPointer (Fun f) = Unit {0}
IsPointer (Raw address upper) = address < 2 ^ 64

abbrev pub Each : {A : Type 0} → (A → Type 0) → List A → Type 0
Each P [] = Unit {0}
Each P (x ∷ xs) = P x × Each P xs

-- an object stands where its own bounds have an encoding
pub record IsStanding (o : Shape) : Type 0 where
  pub low : o.base + o.owned ≤ 2 ^ 40
  pub exact : keeps o.base (o.base + o.owned) o.base ≡ true

-- and holds bytes and pointers
abbrev pub IsByte : Cell → Type 0
IsByte (Byte b) = b < 256
IsByte Unwritten = Unit {0}
IsByte (PartOf v k) = Unit {0}

abbrev pub IsHeld : Option Value → Type 0
IsHeld None = Unit {0}
IsHeld (Some v) = IsPointer v

pub record IsFilled (c : Content) : Type 0 where
  pub cells : Each IsByte c.cells
  pub values : Each IsHeld c.values

pub record IsSound (s : Store) : Type 0 where
  pub shapes : Each IsStanding s.memory.shapes
  pub contents : Each IsFilled s.memory.contents
