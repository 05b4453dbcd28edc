-- Whole runs match, so the machine does what the program means.
use mathlib.Core.Path.{fun_ext}
use Rattle.std.proofs.Common.{subst}
use Rattle.ck_base.specs.Agreement.{DoesWhatIsMeant}
use Rattle.tracked_runs.specs.Matching.{sides_of}
use Rattle.select_whole.proofs.Chosen.{chosen_code_matches_law}
use Rattle.image_runs.specs.Asked.{AskedCodeRuns}
use Rattle.image_runs.proofs.Standing.{chosen}

pub asked_code_runs_law : AskedCodeRuns
asked_code_runs_law g first count m a w bytes =
    subst (λ meaning. DoesWhatIsMeant (sides_of g.report w meaning m) count)
    (fun_ext (a.code.same a.loaded.legal w bytes))
    (chosen_code_matches_law g a.reports a.fine w bytes
    (chosen g a.selected a.code a.loaded w) first count a.enough m (a.starts w bytes))
