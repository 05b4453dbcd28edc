-- What calls and returns do, against what is meant.
use Rattle.std.specs.Prelude.{◌≡◌, ℕ, Bool, List, ◌∷◌, map, Option, Result, Ok, Err}
use Rattle.ck_base.specs.Runs.{Act, Goes}
use Rattle.c_tree.specs.declared.typed.FunDef.{FunDef}
use Rattle.c_tree.specs.declared.typed.Typed.{Typed}
use Rattle.obj_mem.specs.declared.ending.Ending.{Ending}
use Rattle.obj_mem.specs.Values.{Value}
use Rattle.cheri_c_sem.specs.Modes.{Store}
use Rattle.cheri_c_sem.specs.Operations.{Operations}
use Rattle.cheri_c_sem.specs.Programs.{function_tree}
use Rattle.cheri_c_sem.specs.Tree.{Fun}
use Rattle.mean_steps.specs.Machine.{Moment, closed, doing, turn_behind, with_value}
use Rattle.mean_steps.specs.Parts.{On, Over, at_end, frame}
use Rattle.mean_run.specs.declared.state.State.{State}
use Rattle.mean_work.specs.declared.work.Stop.{Stop}
use Rattle.mean_work.specs.declared.work.Stop.TheVariants as stop
use Rattle.mean_run.specs.Views.{caller_of, moment_of, now_of}

-- the turn behind a call, and then its value
abbrev pub given_behind : (first : Bool) → Value → Moment Store → Act (Moment Store) Ending
given_behind first v m = doing (turn_behind first) m (λ _ t. Goes (with_value v t))

-- a function's body was left at its end
abbrev pub Ended : Operations Store → List Fun → (first : Bool) → Fun → Moment Store → Act (Moment Store) Ending
Ended ops funs first g m = doing (at_end ops g.name g.at_end) m (λ v t. closed ops funs first g v t.callers t)

-- a function was entered, in a frame with this address, if there is room for it; what is kept of its caller
abbrev pub Enters : Operations Store → Typed → (g : ℕ) → FunDef → State → State → Store → Store → Option ℕ →
    Result (Unit {0}) Stop → Type 0
Enters ops p g d old new held left address (Ok u) =
    (frame ops address g (function_tree p g d) (now_of old held) ≡ On tt (now_of new left)) ×
    (moment_of p new left ≡ record (moment_of p old held) {
      callers = caller_of old.call ∷ map caller_of old.callers;
      now = now_of new left;
    })
Enters ops p g d old new held left address (Err (stop.Ended e)) =
    frame ops address g (function_tree p g d) (now_of old held) ≡ Over e
Enters ops p g d old new held left address (Err stop.NoMemory) = Unit {0}
