use Rattle.mean_bases.proofs.Runs.{placed_runs_law}
use Rattle.mean_bases.proofs.laws.placed_runs_have_bases.Goals as goal

pub returns : goal.returns
returns c = placed_runs_law
