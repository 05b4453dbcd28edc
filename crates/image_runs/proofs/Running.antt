-- What is made of a program is what the law of whole runs asks.
use Rattle.std.proofs.Common.{◌≡◌, ℕ, Some, sym, subst}
use Rattle.std.specs.Prelude.{slice_get}
use Rattle.obj_mem.specs.Counted.{count_of}
use Rattle.tac_ir.specs.declared.code.TacFun.{TacFun}
use Rattle.place_inject.specs.Frames.{homes_of}
use Rattle.temp_homes.specs.Keeping.{KeepsTemps}
use Rattle.image_runs.specs.Asked.{IsAsked, IsSelected}
use Rattle.image_runs.specs.Counted.{AreCounted}
use Rattle.image_runs.specs.Made.{AreSelected, AreStanding, Made, setting_of, stub_of, whole_of}
use Rattle.image_runs.specs.Running.{IsRunnable, MadeCodeRuns}
use Rattle.image_runs.proofs.Counts.{counted_code_law}
use Rattle.image_runs.proofs.Made.{homes_are, own, own_is, selected_functions_law}
use Rattle.image_runs.proofs.Meant.{asked_code_runs_law}
use Rattle.image_runs.proofs.Starting.{first_starts_law}

module _ (m : Made) (s : AreSelected m) (x : IsRunnable m s) where
  stand : AreStanding m s
  stand = selected_functions_law m s x.made

  counts : AreCounted m s
  counts = counted_code_law m s x.code.sound x.code.formed x.within x.loaded.legal

  keeps : (fun : ℕ) (f : TacFun) → slice_get m.code.funs fun ≡ Some f → KeepsTemps f (homes_of (setting_of m s) fun)
  keeps fun f is =
      subst (KeepsTemps f) (sym (homes_are m s x.made fun f is))
      (x.keeps fun f (own m s x.made fun f is) is (own_is m s x.made fun f is))

  selected : IsSelected (whole_of m s)
  selected = record {
    functions = stand.functions;
    homes = keeps;
    numbers = stand.numbers;
    stub = stub_of m s;
    ends = stand.stub;
    dear = counts.dear;
  }

  asked : IsAsked (whole_of m s) 0 (count_of m.program) m.machine
  asked = record {
    selected = selected;
    code = x.code;
    loaded = x.loaded;
    starts = first_starts_law (whole_of m s) selected x.code x.loaded stand.first m.machine x.first;
    reports = x.reports;
    fine = counts.fine;
    enough = counts.enough;
  }

pub made_code_runs_law : MadeCodeRuns
made_code_runs_law m s x w bytes =
    asked_code_runs_law (whole_of m s) 0 (count_of m.program) m.machine (asked m s x) w bytes
