use Rattle.std.proofs.Common.{sym, subst}
use Rattle.std.proofs.lemmas.Result.{MatchResult-weaker}
use Rattle.c_tree.specs.Syntax.{nil}
use Rattle.c_phrases.specs.Got.{IsPlaceOf}
use Rattle.c_phrases.proofs.Made.{first_leaf}
use Rattle.c_phrases.proofs.cursor.Cursor.leaf.Goals as goal

pub returns-clause-tree : goal.returns-clause-tree
returns-clause-tree c = MatchResult-weaker c.join.result c.join.ensures.tree
    (λ part made. λ names. made.means nil (subst (λ v. IsPlaceOf c.place.result v)
    (sym (first_leaf c.args.kind c.args.item.now)) c.place.ensures) names c.no_parts-parts.ensures.none)
    (λ e same. same)
