use Rattle.mean_bases.proofs.Runs.{strict_runs_law}
use Rattle.mean_bases.proofs.laws.strict_runs_have_bases.Goals as goal

pub returns : goal.returns
returns c = strict_runs_law
