use Rattle.c_phrases.proofs.Declaring.{names_there}
use Rattle.c_phrases.proofs.declarators.optional_name.Goals as goal

pub returns-in-Some : goal.returns-in-Some
returns-in-Some c = λ nodes x m. names_there m c.in-Some.is
