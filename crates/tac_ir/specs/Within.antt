-- Three-address code that is no larger than its program allows.
use Rattle.std.specs.Prelude.{◌≡◌, ℕ, ◌+◌, ◌*◌, ◌==◌, ◌≤◌, Some, slice_get, if◌then◌else◌}
use Rattle.std.specs.List.{sum_by}
use Rattle.c_tree.specs.Counts.{parts, copies}
use Rattle.c_tree.specs.declared.typed.Typed.{Typed}
use Rattle.obj_mem.specs.Needs.{weight_in}
use Rattle.tac_ir.specs.Costs.{function_cost, outgoing}
use Rattle.tac_ir.specs.Temps.{WritesFirst, ZeroesFirst}
use Rattle.tac_ir.specs.declared.code.Tac.{Tac}
use Rattle.tac_ir.specs.declared.code.TacFun.{TacFun}
use Rattle.tac_ir.specs.declared.code.TacInstr.{TacInstr}
use Rattle.tac_ir.specs.declared.code.TacInstr.TheVariants as instr

-- 1 for a Zero of the local
abbrev pub zeroes : ℕ → TacInstr → ℕ
zeroes v (instr.Zero var) = if var == v then 1 else 0
zeroes v i = 0

-- the parts of 16 bytes that an instruction copies, the last one rounded up
abbrev pub copied_parts : TacInstr → ℕ
copied_parts (instr.CopyUnits from to bytes unit from_pos to_pos) = parts bytes
copied_parts i = 0

abbrev pub function_copies : TacFun → ℕ
function_copies f = sum_by copied_parts f.code

-- a function of a weight: its temps are counted with the places of arguments past eight
pub record FunctionCosts (weight : ℕ) (f : TacFun) : Type 0 where
  pub cost : function_cost f ≤ 32 * weight
  pub temps : f.temps + outgoing f.code ≤ 2 * weight

-- each function by the weight of that function of the program
pub record WithinCosts (t : Tac) (p : Typed) : Type 0 where
  pub functions : (k : ℕ) (f : TacFun) → slice_get t.funs k ≡ Some f → FunctionCosts (weight_in p k) f

pub record FunctionWithin (f : TacFun) : Type 0 where
  -- no local has more than one Zero
  pub zeros : (v : ℕ) → sum_by (zeroes v) f.code ≤ 1
  pub writes_first : WritesFirst f
  pub zeroes_first : ZeroesFirst f

-- the code of a program
pub record Within (t : Tac) (p : Typed) : Type 0 where
  pub costs : WithinCosts t p
  pub functions : (k : ℕ) (f : TacFun) → slice_get t.funs k ≡ Some f → FunctionWithin f
  pub copies : sum_by function_copies t.funs ≤ copies p
