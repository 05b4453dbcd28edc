use Rattle.tracked_runs.proofs.Matching.{tracked_runs_match_law}
use Rattle.tracked_runs.proofs.laws.tracked_runs_match.Goals as goal

pub returns : goal.returns
returns c = tracked_runs_match_law
