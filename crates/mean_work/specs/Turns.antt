-- What a use of turns comes to, against what is meant.
use Rattle.std.specs.Prelude.{◌≡◌, ℕ, Result, Ok, Err}
use Rattle.cheri_c_sem.specs.Modes.{Store}
use Rattle.mean_steps.specs.Parts.{Now, Came, On, Over}
use Rattle.mean_work.specs.declared.work.Stop.{Stop}
use Rattle.mean_work.specs.declared.work.Stop.TheVariants as stop

-- so many turns are left, and nothing beside them changed; or the run ends so
abbrev pub LeavesTurns : Came Store (Unit {0}) → Now Store → ℕ → Result (Unit {0}) Stop → Type 0
LeavesTurns c n left (Ok u) = c ≡ On tt (record n { left = left })
LeavesTurns c n left (Err (stop.Ended e)) = c ≡ Over e
LeavesTurns c n left (Err stop.NoMemory) = ⊥
