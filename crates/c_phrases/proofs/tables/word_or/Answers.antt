use Rattle.c_phrases.proofs.Words.{other_same}
use Rattle.c_phrases.proofs.tables.word_or.Goals as goal

pub returns-in_default : goal.returns-in_default
returns-in_default c = other_same c.args.symbol c.in_default.not-Other
