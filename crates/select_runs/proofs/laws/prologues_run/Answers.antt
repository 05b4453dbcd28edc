use Rattle.select_runs.proofs.Prologue.{prologues_run_law}
use Rattle.select_runs.proofs.laws.prologues_run.Goals as goal

pub returns : goal.returns
returns c = prologues_run_law
