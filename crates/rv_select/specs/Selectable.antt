-- What is asked of a program's code, of the homes of its temps and of its frames for words to be chosen for all of it.
use Rattle.std.specs.Prelude.{◌≡◌, ◌⊎◌, ℕ, ◌+◌, ◌*◌, ◌/◌, ◌^◌, ◌<◌, ◌≤◌, List, length, slice_get, Some}
use Rattle.std.specs.Prelude.{if◌then◌else◌}
use Rattle.std.specs.List.{Contains}
use Rattle.c_tree.specs.declared.typed.Typed.{Typed}
use Rattle.obj_mem.specs.declared.map.Frame.{Frame}
use Rattle.purecap_abi.specs.Saving.{IsFor}
use Rattle.reg_alloc.specs.Placed.{IsUsable}
use Rattle.reg_alloc.specs.declared.places.Home.{Home}
use Rattle.reg_alloc.specs.declared.places.Home.TheVariants.{Register}
use Rattle.reg_alloc.specs.declared.places.Places.{Places}
use Rattle.tac_ir.specs.Costs.{function_cost}
use Rattle.tac_ir.specs.Temps.{IsIn, names}
use Rattle.tac_ir.specs.declared.code.LibOp.TheVariants as lib
use Rattle.tac_ir.specs.declared.code.TacFun.{TacFun}
use Rattle.tac_ir.specs.declared.code.TacInstr.{TacInstr}
use Rattle.tac_ir.specs.declared.code.TacInstr.TheVariants as instr
use Rattle.select_words.specs.Operations.{AtKind}
use Rattle.select_words.specs.Services.{IsAside}
use Rattle.rv_select.specs.declared.function.Entries.{Entries}
use Rattle.rv_emit.specs.Growing.{reach}
use Rattle.rv_select.specs.Objects.{HasObject}
use Rattle.rv_select.specs.Selected.{Before}

-- Of an instruction alone: operations at kinds at which there are words for them, locals with a slot of the frame,
-- entries of the table that two words reach, copies of units, arguments for which a frame has places
abbrev pub IsFormed : Before → Frame → TacInstr → Type 0
IsFormed table frame (instr.Int op k to a b) = AtKind k op
IsFormed table frame (instr.Local to var) = HasObject frame var
IsFormed table frame (instr.Zero var) = HasObject frame var
IsFormed table frame (instr.Global to number literal) =
    16 * (if literal then table.literals + number else number) < reach
IsFormed table frame (instr.Function to fun) = 16 * (table.functions + fun) < reach
IsFormed table frame (instr.CopyUnits from to bytes unit from_pos to_pos) =
    (0 < unit) × (bytes / unit < 2 ^ 31)
IsFormed table frame (instr.Call to fun args) =
    (length args ≤ 4194304) × (16 * (table.functions + fun) < reach)
IsFormed table frame (instr.CallValue to v of args pos) = length args ≤ 4194304
IsFormed table frame (instr.Lib lib.Malloc to args) = (0 < length args) × (16 * table.heap < reach)
IsFormed table frame i = Unit {0}

-- Of a function: no more words than a jump leads over, and a home for each temp, in registers that may be homes. A
-- parameter stands in the register in which it comes or in none of those in which arguments come, and no two stand in
-- one home
pub record IsSelectable (table : Before) (t : TacFun) (homes : List Home) (frame : Frame) : Type 0 where
  pub short : function_cost t < 262144
  pub one_each : length homes ≡ t.temps
  pub named : (i : TacInstr) → Contains t.code i → (k : ℕ) → IsIn k (names i) → k < t.temps
  pub params : t.params ≤ t.temps
  pub usable : (k r : ℕ) → slice_get homes k ≡ Some (Register r) → IsUsable r
  pub apart : (j k : ℕ) → j < t.params → k < t.params → (j ≡ k → ⊥) → slice_get homes j ≡ slice_get homes k → ⊥
  pub passed : (k r : ℕ) → k < t.params → slice_get homes k ≡ Some (Register r) → (r ≡ 10 + k) ⊎ IsAside r
  pub formed : (i : TacInstr) → Contains t.code i → IsFormed table frame i

-- a table of such entries
abbrev pub table_of : Entries → Before
table_of e = record { literals = e.literals; functions = e.functions; heap = e.heap }

-- the table has the globals, the literals, the functions and the heap
abbrev pub before : Typed → Before
before p = record {
  literals = length p.globals;
  functions = length p.globals + length p.literals;
  heap = length p.globals + length p.literals + length p.funs;
}

-- the table's entry of the function with which a run begins is within reach
abbrev pub ReachesFirst : Typed → Type 0
ReachesFirst p = let b : Before = before p in 16 * (b.functions + p.main) < reach

abbrev pub AreAll : Before → List TacFun → List Places → List Frame → Type 0
AreAll table funs places frames =
    (fun : ℕ) (t : TacFun) (l : Places) (frame : Frame) → slice_get funs fun ≡ Some t → slice_get places fun ≡ Some l
    → slice_get frames fun ≡ Some frame → IsSelectable table t l.homes frame

abbrev pub AreSelectable : Typed → List TacFun → List Places → List Frame → Type 0
AreSelectable p funs places frames = AreAll (before p) funs places frames

-- each frame is one for the homes at its place
abbrev pub AreFramed : List Places → List Frame → Type 0
AreFramed places frames =
    (k : ℕ) (l : Places) (f : Frame) → slice_get places k ≡ Some l → slice_get frames k ≡ Some f → IsFor l.homes f
