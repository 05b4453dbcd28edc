use Rattle.c_lex.proofs.OneReading.{Reads-push}
use Rattle.c_lex.proofs.laws.calls_read.Goals as goal

pub returns-clause-token : goal.returns-clause-token
returns-clause-token c = λ file tokens k token. Reads-push file 0 tokens k token
