use Rattle.c_lex.proofs.OneReading.{one_token, one_refused, token_not_end, token_not_refused, refused_not_end}
use Rattle.c_lex.proofs.laws.one_step.Goals as goal

pub returns-clause-token : goal.returns-clause-token
returns-clause-token c = one_token

pub returns-clause-refusal : goal.returns-clause-refusal
returns-clause-refusal c = one_refused

pub returns-clause-token_or_end : goal.returns-clause-token_or_end
returns-clause-token_or_end c = token_not_end

pub returns-clause-token_or_refusal : goal.returns-clause-token_or_refusal
returns-clause-token_or_refusal c = token_not_refused

pub returns-clause-refusal_or_end : goal.returns-clause-refusal_or_end
returns-clause-refusal_or_end c = refused_not_end
