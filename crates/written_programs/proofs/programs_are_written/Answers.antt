use Rattle.written_programs.proofs.Written.{written}
use Rattle.written_programs.proofs.programs_are_written.Goals as goal

pub returns : goal.returns
returns c = record { written = written }
