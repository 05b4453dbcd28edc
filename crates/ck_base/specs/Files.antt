-- What the calls of files by name do.
use Rattle.std.specs.Prelude.{◌≡◌, ◌≢◌, ℕ, ◌<◌, ◌≤◌, List, length, Option, Some, None, Result, Ok, Err, Vec, ⊤}
use Rattle.std.specs.declared.alloc.Global.{Global}
pub use Rattle.ck_base.specs.Named.{FileMap}
use Rattle.ck_base.specs.Outside.{Rises}
use Rattle.ck_base.specs.declared.outside.FileError.{FileError}
use Rattle.ck_base.specs.declared.outside.FileError.TheVariants.{Failed, Missing, TooLong, NoMemory}

-- What `get` answers. Where no map is told, neither `Missing` nor `TooLong` ever comes. Where one is told, memory can
-- lack for a file alone that is there and not too long.
abbrev pub Gets : Option FileMap → List ℕ → Result (Vec ℕ Global) FileError → Type 0
Gets None name (Ok v) = length v.items ≤ 268435456
Gets (Some files) name (Ok v) = (length v.items ≤ 268435456) × (files name ≡ Some v.items)
Gets None name (Err Missing) = ⊥
Gets (Some files) name (Err Missing) = files name ≡ None
Gets None name (Err TooLong) = ⊥
Gets (Some files) name (Err TooLong) = (bytes : List ℕ) × (files name ≡ Some bytes) × (268435456 < length bytes)
Gets None name (Err NoMemory) = ⊤
Gets (Some files) name (Err NoMemory) = (bytes : List ℕ) × (files name ≡ Some bytes) × (length bytes ≤ 268435456)
Gets told name (Err Failed) = ⊤

abbrev pub HasFile : Option FileMap → List ℕ → List ℕ → Type 0
HasFile None name bytes = ⊤
HasFile (Some files) name bytes = files name ≡ Some bytes

-- every other name is as it was
abbrev pub SameOthers : Option FileMap → Option FileMap → List ℕ → Type 0
SameOthers None new name = ⊤
SameOthers (Some old) None name = ⊥
SameOthers (Some old) (Some new) name = (other : List ℕ) → other ≢ name → new other ≡ old other

-- the count rises in a call that failed, and in no other
pub record FileCounted (old new : ℕ) (Failed : Type 0) : Type 0 where
  pub failed : Failed → Rises old new
  pub same : (Failed → ⊥) → new ≡ old
