-- The functions of a typed program, and the code of each.
use Rattle.std.specs.Prelude.{◌≡◌, ℕ, length, Some, slice_get}
use Rattle.c_tree.specs.WellTyped.{FunctionFits}
use Rattle.c_tree.specs.declared.typed.FunDef.{FunDef}
use Rattle.c_tree.specs.declared.typed.Typed.{Typed}
use Rattle.tac_ir.specs.declared.code.TacFun.{TacFun}
use Rattle.tac_emit.specs.declared.emitter.Emitter.{Emitter}
use Rattle.tac_emit.specs.Emitted.{HasKind}
use Rattle.tac_lower.specs.Signed.{kept_parameter}

-- each function of a program is well typed
pub record AreTypedFunctions (p : Typed) : Type 0 where
  pub each : (k : ℕ) (d : FunDef) → slice_get p.funs k ≡ Some d → FunctionFits p d

-- the first temps are those of the parameters
pub record AreParameters (p : Typed) (d : FunDef) (e : Emitter) : Type 0 where
  pub each : (j x : ℕ) → slice_get d.params j ≡ Some x → HasKind e j (kept_parameter p d x)

-- a function is made of the code and the temps
pub record Makes (d : FunDef) (e : Emitter) (f : TacFun) : Type 0 where
  pub name : f.name ≡ d.pos
  pub params : f.params ≡ length d.params
  pub temps : f.temps ≡ length e.kinds.items
  pub kinds : f.kinds ≡ e.kinds.items
  pub code : f.code ≡ e.code.items
