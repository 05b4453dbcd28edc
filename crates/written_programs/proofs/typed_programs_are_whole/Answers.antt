use Rattle.written_programs.proofs.Whole.{typed_whole}
use Rattle.written_programs.proofs.typed_programs_are_whole.Goals as goal

pub returns : goal.returns
returns c = record { whole = typed_whole }
