-- What is done by the turns alone is done by the state.
use Rattle.std.proofs.Common.{ℕ, Result, Ok, refl}
use Rattle.std.specs.Prelude.{Err}
use Rattle.c_tree.specs.declared.typed.Typed.{Typed}
use Rattle.cheri_c_sem.specs.Modes.{Store}
use Rattle.mean_steps.specs.Parts.{Part}
use Rattle.mean_work.specs.declared.work.Stop.{Stop}
use Rattle.mean_work.specs.declared.work.Stop.TheVariants as stop
use Rattle.mean_work.specs.Turns.{LeavesTurns}
use Rattle.mean_run.specs.declared.state.State.{State}
use Rattle.mean_run.specs.Parts.{Did}
use Rattle.mean_run.specs.Views.{now_of}

pub turns_did : (c : Part Store (Unit {0})) (p : Typed) (old : State) (left : ℕ) (held : Store)
    (r : Result (Unit {0}) Stop) → LeavesTurns (c (now_of old held)) (now_of old held) left r →
    Did c (λ u. u) p old (record old { left = left }) held held r
turns_did c p old left held (Ok u) h = (h, refl)
turns_did c p old left held (Err (stop.Ended e)) h = h
turns_did c p old left held (Err stop.NoMemory) h = tt
