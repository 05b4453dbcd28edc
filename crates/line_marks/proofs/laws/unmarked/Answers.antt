use Rattle.line_marks.proofs.Plain as plain
use Rattle.line_marks.proofs.laws.unmarked.Goals as goal

pub returns-clause-file : goal.returns-clause-file
returns-clause-file c = plain.unmarked
