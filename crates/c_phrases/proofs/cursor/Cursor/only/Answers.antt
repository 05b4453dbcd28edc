use Rattle.std.proofs.Common.{refl, rules}
use Rattle.c_phrases.proofs.Made.{holds_one}
use Rattle.c_phrases.proofs.cursor.Cursor.only.Goals as goal

pub returns-clause-one : goal.returns-clause-one
returns-clause-one c = λ x m. holds_one m (search rules) refl
