-- What holds at each moment of a run of well-formed code under a map.
use Rattle.std.specs.Prelude.{◌≡◌, ℕ, ◌+◌, ◌^◌, ◌<◌, ◌≤◌, true, false, Bool, List, [], ◌∷◌, length, Option, Some, None}
use Rattle.ck_base.specs.Runs.{Act, Goes, Puts, Reads, Ends}
use Rattle.c_tree.specs.declared.typed.Typed.{Typed}
use Rattle.obj_mem.specs.declared.ending.Ending.{Ending}
use Rattle.obj_mem.specs.declared.map.Map.{Map}
use Rattle.obj_mem.specs.Objects.{Shape}
use Rattle.obj_mem.specs.Values.{Value}
use Rattle.cheri_c_sem.specs.Modes.{Store, operations, placed_plan}
use Rattle.object_memory.specs.Memories.{IsSize}
use Rattle.tac_ir.specs.WellFormed.{is_well_formed}
use Rattle.tac_ir.specs.declared.code.Tac.{Tac}
use Rattle.tac_ir.specs.declared.code.TacInstr.{TacInstr}
use Rattle.tac_ir.specs.declared.code.TacInstr.TheVariants as instr
use Rattle.tac_steps.specs.Machine.{Caller, Moment, act}
use Rattle.tac_run.specs.Bases.{IsBased, AreBased}
use Rattle.tac_run.specs.Ready.{IsRoomy, objects_by}

-- ---- values

abbrev pub AreValuesBased : List Shape → List Value → Type 0
AreValuesBased shapes [] = Unit {0}
AreValuesBased shapes (v ∷ vs) = IsBased shapes v × AreValuesBased shapes vs

abbrev pub IsTempBased : List Shape → Option Value → Type 0
IsTempBased shapes None = Unit {0}
IsTempBased shapes (Some v) = IsBased shapes v

abbrev pub AreTempsBased : List Shape → List (Option Value) → Type 0
AreTempsBased shapes [] = Unit {0}
AreTempsBased shapes (o ∷ os) = IsTempBased shapes o × AreTempsBased shapes os

-- ---- calls

-- what a call has of its own: its objects, so many, are there, and its frame's address is a number of 64 bits
pub record IsCall (shapes : List Shape) (objects : ℕ) (vars : List (Option Value)) (first address : ℕ) : Type 0 where
  pub temps : AreTempsBased shapes vars
  pub room : first + objects ≤ length shapes
  pub frame : address < 2 ^ 64

abbrev pub AreCallers : List Shape → (ℕ → List ℕ) → List Caller → Type 0
AreCallers shapes objects [] = Unit {0}
AreCallers shapes objects (c ∷ cs) =
    IsCall shapes (length (objects c.fun)) c.vars c.first c.frame × AreCallers shapes objects cs

pub record IsSound (p : Typed) (m : Moment Store) : Type 0 where
  pub memory : AreBased m.now.mem.memory
  -- the objects of the globals and the literals are there
  pub program : length p.globals + length p.literals ≤ length m.now.mem.memory.shapes
  pub now : IsCall m.now.mem.memory.shapes (length (objects_by p m.fun)) m.now.vars m.now.first m.now.frame
  pub callers : AreCallers m.now.mem.memory.shapes (objects_by p) m.callers

-- it holds wherever an act leads
abbrev pub Leads : {M : Type 0} → (M → Type 0) → Act M Ending → Type 0
Leads P (Goes m) = P m
Leads P (Puts byte m) = P m
Leads P (Reads to) = (byte : Option ℕ) → P (to byte)
Leads P (Ends e) = Unit {0}

-- ---- what an instruction names is there

abbrev pub count_where : Typed → Bool → ℕ
count_where p true = length p.literals
count_where p false = length p.globals

-- in a function with so many objects
abbrev pub Names : Typed → ℕ → TacInstr → Type 0
Names p objects (instr.Local to var) = var < objects
Names p objects (instr.Zero var) = var < objects
Names p objects (instr.Global to number literal) = number < count_where p literal
Names p objects (instr.CopyUnits from to bytes unit from_pos to_pos) = IsSize unit
Names p objects i = Unit {0}

-- ---- acts

-- An act of well-formed code leads from such a moment to such a moment
abbrev pub ActsStaySound : Type 0
ActsStaySound = (t : Tac) (p : Typed) (m : Map) (x : Moment Store) → is_well_formed t p ≡ true → IsRoomy p m →
    IsSound p x
    → Leads (IsSound p) (act (operations (placed_plan m)) t (objects_by p) p x)
