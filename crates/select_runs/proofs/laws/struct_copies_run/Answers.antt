use Rattle.select_runs.proofs.Copying.{struct_copies_run_law}
use Rattle.select_runs.proofs.laws.struct_copies_run.Goals as goal

pub returns : goal.returns
returns c = struct_copies_run_law
