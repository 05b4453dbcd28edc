use Rattle.c_lex.proofs.OneReading.{one_lexing, one_refusal, lexing_no_refusal}
use Rattle.c_lex.proofs.laws.one_reading.Goals as goal

pub returns-clause-tokens : goal.returns-clause-tokens
returns-clause-tokens c = one_lexing

pub returns-clause-refusal : goal.returns-clause-refusal
returns-clause-refusal c = one_refusal

pub returns-clause-apart : goal.returns-clause-apart
returns-clause-apart c = lexing_no_refusal
