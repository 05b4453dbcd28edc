use Rattle.c_phrases.proofs.Tools.{given}
use Rattle.c_externals.proofs.StatementsSound.{file_sound}
use Rattle.c_externals.proofs.StatementsComplete.{file_complete}
use Rattle.c_parse.proofs.laws.readings_are_trees.Goals as goal

pub returns-clause-sound : goal.returns-clause-sound
returns-clause-sound c = λ h tokens x e. given (file_sound h tokens) e

pub returns-clause-complete : goal.returns-clause-complete
returns-clause-complete c = λ h tokens x d low. file_complete h d low
