use Rattle.std.proofs.Common.{refl, rules}
use Rattle.c_phrases.proofs.Made.{made_means}
use Rattle.c_phrases.proofs.cursor.Cursor.make.Goals as goal

pub returns-clause-tree : goal.returns-clause-tree
returns-clause-tree c = record {
  grows = record { added = _; grown = c.in_ok-push.ensures.items };
  means = made_means _ c.in_ok-push.ensures.items (search rules) refl (search rules) refl refl refl refl (search rules);
}
