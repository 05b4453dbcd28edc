-- A step of a run, against an act of the machine, where it may meet the outside.
use Rattle.std.specs.Prelude.{◌≡◌, Some, None, Result, Ok, Err}
use Rattle.ck_base.specs.Calls.{Seen, Acted}
use Rattle.ck_base.specs.Runs.{Act}
use Rattle.obj_mem.specs.declared.ending.Ending.{Ending}
use Rattle.cheri_c_sem.specs.Modes.{Store}
use Rattle.mean_steps.specs.Machine.{Moment, limits}
use Rattle.mean_work.specs.declared.work.Stop.{Stop}
use Rattle.mean_work.specs.declared.work.Stop.TheVariants as stop

-- An act was done, from a moment to another one; or it ended the run; or memory was wanting, and nothing was read
-- or put
abbrev pub Stepped : Act (Moment Store) Ending → Seen → Seen → Moment Store → Moment Store → Result (Unit {0}) Stop →
    Type 0
Stepped a before after old new (Ok u) = Acted limits a before after old new None
Stepped a before after old new (Err (stop.Ended e)) = Acted limits a before after old old (Some e)
Stepped a before after old new (Err stop.NoMemory) = after ≡ before
