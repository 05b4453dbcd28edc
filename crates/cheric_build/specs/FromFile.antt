-- What it means that an image was built from a C file, and why none is.
use Rattle.std.specs.Prelude.{ℕ, ◌≤◌, List, length}
use Rattle.ck_base.specs.declared.refusal.Refusal.{Refusal}
use Rattle.ck_base.specs.declared.refusal.Refusal.TheVariants.{Code, NoMemory}
use Rattle.c_tree.specs.File.{file_limit}
use Rattle.accepted_files.specs.Accepted.{Accepts, Refused}
use Rattle.c_tree.specs.declared.typed.Typed.{Typed}
use Rattle.obj_mem.specs.declared.map.Map.{Map}
use Rattle.reg_alloc.specs.declared.places.Places.{Places}
use Rattle.tac_ir.specs.declared.code.Tac.{Tac}
use Rattle.typed_build.specs.Built.{IsBuilt}
use Rattle.typed_build.specs.Registers.{UsesRegisters}

-- ---- built

-- What is built of a file: it is accepted as a program, and is built of each program as which it is accepted
pub record IsBuiltFrom (source : List ℕ) (file : List ℕ) (map : Map) (count : ℕ) : Type 0 where
  pub program : Typed
  pub accepted : Accepts source program
  pub built : IsBuilt program file map count
  pub each : (p : Typed) → Accepts source p → IsBuilt p file map count

-- The three-address code and the homes of which the text is made are those of a program as which the file is accepted
pub record IsMadeOf (source : List ℕ) (code : Tac) (places : List Places) (file : List ℕ) (map : Map) : Type 0 where
  pub program : Typed
  pub accepted : Accepts source program
  pub used : UsesRegisters program code places file map

-- ---- refused files

-- The first rule that a file breaks. Want of memory is free, but for a file that is too long.
abbrev pub IsFileRefusal : List ℕ → Refusal → Type 0
IsFileRefusal file (Code code place) = Refused file code place
IsFileRefusal file NoMemory = length file ≤ file_limit
