use Rattle.select_whole.proofs.Matching.{whole_runs_match_law}
use Rattle.select_whole.proofs.laws.whole_runs_match.Goals as goal

pub returns : goal.returns
returns c = whole_runs_match_law
