-- A machine's run in a world, and a run that is meant, which is counted in turns, match.
use Rattle.std.specs.Prelude.{◌≡◌, ℕ, ◌+◌, ◌*◌, Option, Some, None}
use Rattle.ck_base.specs.Agreement.{Sides, DoesWhatIsMeant}
use Rattle.ck_base.specs.Runs.{outcome, ending_alone}
use Rattle.ck_base.specs.World.{World, Done, Outcome, nothing_done}
use Rattle.cap_machine.specs.declared.end.End.{End}
use Rattle.cap_machine.specs.declared.end.End.TheVariants as end
use Rattle.cap_machine.specs.declared.machine.Machine.{Machine}
use Rattle.cap_machine.specs.Step.{act, limits}
use Rattle.obj_mem.specs.declared.ending.Ending.{Ending}
use Rattle.obj_mem.specs.declared.ending.Ending.TheVariants as ending
use Rattle.obj_mem.specs.Endings.{is_turns, is_outside}
use Rattle.cheri_c_sem.specs.Steps.{Fate, outcome_of}
use Rattle.tracked_runs.specs.Tracking.{moment, Course, Finished, Waiting, Outside, Tracks}

-- ---- what the machine's endings report

-- Exits and faults of the outside report themselves, and a run that goes on reports nothing.
pub record IsReport (report : End → Option Ending) : Type 0 where
  pub exit : (n : ℕ) → report (end.Exit n) ≡ Some (ending.Exit n)
  pub read_fault : report end.ReadFault ≡ Some ending.ReadFault
  pub write_fault : report end.WriteFault ≡ Some ending.WriteFault
  pub steps : report end.Steps ≡ None

abbrev pub Reports : (End → Option Ending) → End → Ending → Type 0
Reports report e f = report e ≡ Some f

-- ---- how what is meant comes out

abbrev pub course_by : Done → Ending → Course Ending
course_by d ending.Turns = Waiting d
course_by d (ending.Outside pos) = Outside d
course_by d e = Finished d e

abbrev pub course_of : Fate → Course Ending
course_of f = course_by f.done f.ending

-- ---- that they match

-- in one world, a machine's runs and what is meant
abbrev pub sides_of : (End → Option Ending) → World → (meaning : (turns : ℕ) → Outcome Ending) → Machine
    → Sides End Ending
sides_of report w meaning m = record {
  machine = λ n. outcome limits act ending_alone m n w;
  meaning = meaning;
  steps = end.Steps;
  is_turns = is_turns;
  is_outside = is_outside;
  report = report;
}

-- They do where the machine tracks what is meant with each number of turns, in so many acts
abbrev pub TrackedRunsMatch : Type 0
TrackedRunsMatch = (report : End → Option Ending) → IsReport report → (w : World) (fate : (turns : ℕ) → Fate)
    (count : ℕ) (m : Machine)
    → ((n : ℕ) → Tracks limits act w (Reports report) n ((n + 1) * count) (course_of (fate n)) (moment m nothing_done))
    → DoesWhatIsMeant (sides_of report w (λ n. outcome_of w (fate n)) m) count
