-- What is asked of what is made of a program, for its machine to do what the program means.
use Rattle.std.specs.Prelude.{◌≡◌, ℕ, Some, slice_get}
use Rattle.ck_base.specs.Agreement.{DoesWhatIsMeant}
use Rattle.ck_base.specs.World.{World, GivesBytes}
use Rattle.obj_mem.specs.Counted.{count_of}
use Rattle.reg_alloc.specs.declared.places.Places.{Places}
use Rattle.tac_ir.specs.Within.{Within}
use Rattle.tac_ir.specs.declared.code.TacFun.{TacFun}
use Rattle.tracked_runs.specs.Matching.{IsReport}
use Rattle.temp_homes.specs.Keeping.{KeepsTemps}
use Rattle.image_runs.specs.Asked.{IsCode, IsLoaded, program_sides}
use Rattle.image_runs.specs.Made.{AreMade, AreSelected, Made, whole_of}
use Rattle.image_runs.specs.Starting.{IsFirst}

pub record IsRunnable (m : Made) (s : AreSelected m) : Type 0 where
  pub made : AreMade m s
  pub keeps : (fun : ℕ) (f : TacFun) (l : Places) → slice_get m.code.funs fun ≡ Some f
      → slice_get m.places fun ≡ Some l → KeepsTemps f l.homes
  pub code : IsCode (whole_of m s)
  pub within : Within m.code m.program
  pub loaded : IsLoaded (whole_of m s)
  pub first : IsFirst (whole_of m s) m.machine
  pub reports : IsReport m.report

-- Within the count of the program for each turn
abbrev pub MadeCodeRuns : Type 0
MadeCodeRuns = (m : Made) (s : AreSelected m) → IsRunnable m s → (w : World) → GivesBytes w
    → DoesWhatIsMeant (program_sides (whole_of m s) w m.machine) (count_of m.program)
