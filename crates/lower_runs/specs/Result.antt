-- The results: code that the relation makes of an expression, or of a statement, does what that means.
use Rattle.std.specs.Prelude.{ℕ, Bool, List, Option, slice_get}
use Rattle.ck_base.specs.World.{World, GivesBytes}
use Rattle.c_tree.specs.declared.typed.Typed.{Typed}
use Rattle.obj_mem.specs.Values.{Value}
use Rattle.cheri_c_sem.specs.Modes.{Store}
use Rattle.cheri_c_sem.specs.Operations.{Operations}
use Rattle.cheri_c_sem.specs.Steps.{Then}
use Rattle.cheri_c_sem.specs.Tree.{Ex, Exs, St}
use Rattle.tac_ir.specs.Meaning.{Running, kinds_of}
use Rattle.tac_ir.specs.declared.code.Tac.{Tac}
use Rattle.tac_ir.specs.declared.code.TacKind.{TacKind}
use Rattle.lower_runs.specs.States.{Scene, IsScene, IsPlaced}
use Rattle.lower_runs.specs.Operating.{Code}
use Rattle.lower_runs.specs.Expressions.{Mark, Signature, IsValue, IsOperand, IsEffect, IsCondition, IsPlace}
use Rattle.lower_runs.specs.Statements.{Exits, IsStatement}
use Rattle.lower_runs.specs.Following.{StatementRuns}
use Rattle.lower_runs.specs.Simulation.{ValueRuns, OperandRuns, EffectRuns, ConditionRuns, PlaceRuns, kinds}
use Rattle.lower_runs.specs.Calling.{CallsRun}

module _ (ops : Operations Store) (w : World) (t : Tac) (p : Typed) (objects : ℕ → List ℕ) (r : Running)
    (call : ℕ → List Value → Then Store Value) (signs : ℕ → Signature) (g : Scene) where
  abbrev temps : List TacKind
  temps = kinds ops w t p objects r call g

  -- values, operands, effects, conditions and places
  pub record Runs : Type 0 where
    pub value : (k : TacKind) (e : Ex) (to : ℕ) (m n : Mark) (c : Code) → IsValue p signs temps g k e to m n c →
        ValueRuns ops w t p objects r call g k e to m n c
    pub operand : (later : Exs) (k : TacKind) (e : Ex) (at : ℕ) (m n : Mark) (c : Code) →
        IsOperand p signs temps g later k e at m n c → OperandRuns ops w t p objects r call g later k e at m n c
    pub effect : (e : Ex) (m n : Mark) (c : Code) → IsEffect p signs temps g e m n c →
        EffectRuns ops w t p objects r call g e m n c
    pub condition : (k : TacKind) (e : Ex) (when : Bool) (label : ℕ) (m n : Mark) (c : Code) →
        IsCondition p signs temps g k e when label m n c → ConditionRuns ops w t p objects r call g k e when label m n c
    pub place : (e : Ex) (to : ℕ) (m n : Mark) (c : Code) → IsPlace p signs temps g e to m n c →
        PlaceRuns ops w t p objects r call g e to m n c

-- given calls
abbrev pub ExpressionsRun : Type 0
ExpressionsRun =
    (ops : Operations Store) → IsPlaced ops →
    (w : World) (t : Tac) (p : Typed) (objects : ℕ → List ℕ) (r : Running)
    (call : ℕ → List Value → Then Store Value) (signs : ℕ → Signature) (g : Scene) → IsScene g
    → GivesBytes w → CallsRun ops w t p objects call signs g.limit → Runs ops w t p objects r call signs g

-- ---- statements

-- given calls
abbrev pub StatementsAreRun : Type 0
StatementsAreRun =
    (ops : Operations Store) → IsPlaced ops →
    (w : World) (t : Tac) (p : Typed) (objects : ℕ → List ℕ) (r : Running)
    (call : ℕ → List Value → Then Store Value) (signs : ℕ → Signature) (result : Option TacKind) (g : Scene) → IsScene g
    → GivesBytes w → CallsRun ops w t p objects call signs g.limit → (x : Exits) (a : St) (m n : Mark) (c : Code) →
    IsStatement p signs (kinds_of (slice_get t.funs r.fun)) result g x a m n c →
    StatementRuns ops w t p objects r call result g x a m n c
