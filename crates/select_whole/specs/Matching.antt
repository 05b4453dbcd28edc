-- Whole runs: the machine's run of selected code and the run of three-address code match, in both directions.
use Rattle.std.specs.Prelude.{◌≡◌, ℕ, ◌+◌, ◌<◌, ◌≤◌, Bool, true, false, List, [], ◌∷◌, length, Option}
use Rattle.std.specs.Prelude.{Some, None, slice_get}
use Rattle.ck_base.specs.Agreement.{Sides, DoesWhatIsMeant}
use Rattle.ck_base.specs.World.{World, GivesBytes, nothing_done}
use Rattle.cap_machine.specs.declared.end.End.{End}
use Rattle.cap_machine.specs.declared.end.End.TheVariants as end
use Rattle.cap_machine.specs.declared.machine.Machine.{Machine}
use Rattle.obj_mem.specs.declared.ending.Ending.{Ending}
use Rattle.obj_mem.specs.declared.ending.Ending.TheVariants as ending
use Rattle.tac_ir.specs.Meaning.{tac, name_of}
use Rattle.tac_ir.specs.WellFormed.{ends_well, turns_fit}
use Rattle.tac_ir.specs.declared.code.TacInstr.{TacInstr}
use Rattle.select_runs.specs.Results.{Arrives}
use Rattle.select_runs.specs.Results as at_place
use Rattle.tracked_runs.specs.Matching.{IsReport, sides_of}
use Rattle.tracked_runs.specs.Tracking.{moment}
use Rattle.select_whole.specs.Visited.{Whole, ops_of, tac_at, main_of, entry_of, first_running}
use Rattle.select_whole.specs.Runs.{AreWords, InstructionsRun, StopsBy, last_acts}

-- ---- what is asked of the code

-- the acts that instructions take at most
abbrev pub dear_of : Whole → (fun : ℕ) → List TacInstr → ℕ
dear_of g fun [] = 0
dear_of g fun (i ∷ is) = g.dear fun i + dear_of g fun is

-- the end of a function's code: Turns stand before jumps and branches alone, its last instruction ends it, and it takes
-- few acts, also where the function is entered first
pub record IsFine (g : Whole) (fun : ℕ) (b : Bool) (is : List TacInstr) : Type 0 where
  pub ends : ends_well is ≡ true
  pub turned : turns_fit b is ≡ true
  pub cheap : g.setup fun + dear_of g fun is ≤ g.most

abbrev pub AreFine : Whole → Type 0
AreFine g = (fun : ℕ) → fun < length g.setting.code.funs → IsFine g fun false (tac_at g fun)

-- ---- the start

abbrev pub Started : Whole → World → (most turns : ℕ) → Option ℕ → Machine → Type 0
Started g w most turns (Some address) m =
    Arrives g.setting g.code (at_place.behind (first_running g) (tac_at g (main_of g))) 0 most
    (g.word (main_of g) (tac_at g (main_of g))) (entry_of g w address turns) m
Started g w most turns None m =
    (e : End) × StopsBy g w most m e
    × (g.report e ≡ Some (ending.Stack (name_of (slice_get g.setting.code.funs (main_of g)))))

-- The machine's first state leads to the first function, in at most so many acts beside those by which that is entered
pub record Starts (g : Whole) (w : World) (most : ℕ) (m : Machine) : Type 0 where
  pub main : main_of g < length g.setting.code.funs
  pub each : (turns : ℕ) → Started g w (most + g.setup (main_of g)) turns
      ((ops_of g).enter (main_of g) (ops_of g).stack_top) m
  pub addresses : AreWords w (moment m nothing_done)

-- ---- what is then known

-- in one world, the machine's runs and those of the code
abbrev pub code_sides : Whole → World → Machine → Sides End Ending
code_sides g w m = sides_of g.report w (tac g.setting.code g.program g.setting.map w) m

-- Where each instruction runs, whole runs match
abbrev pub WholeRunsMatch : Type 0
WholeRunsMatch = (g : Whole) → IsReport g.report → AreFine g → (w : World) → GivesBytes w → InstructionsRun g w
    → (first count : ℕ) → first + last_acts + g.most ≤ count → (m : Machine) → Starts g w first m
    → DoesWhatIsMeant (code_sides g w m) count
