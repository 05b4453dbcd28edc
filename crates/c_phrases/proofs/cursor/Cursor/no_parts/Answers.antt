use Rattle.std.proofs.Common.{refl, rules}
use Rattle.c_phrases.proofs.Made.{holds_nil}
use Rattle.c_phrases.proofs.cursor.Cursor.no_parts.Goals as goal

pub returns-clause-none : goal.returns-clause-none
returns-clause-none c = holds_nil (search rules) refl
