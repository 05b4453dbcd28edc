use Rattle.std.proofs.Common.{refl, sym}
use Rattle.std.proofs.lemmas.Result.{MatchResult-weaker}
use Rattle.c_phrases.proofs.cursor.Cursor.join.Goals as goal

pub returns-clause-tree : goal.returns-clause-tree
returns-clause-tree c = MatchResult-weaker c.make.result c.make.ensures.tree
    (λ part made. record {
      grows = made.grows;
      means = λ xs first names holds. made.means c.args.item.now xs
          (record { kind = refl; own = c.place-own.ensures; first = first; names = sym names }) holds;
    })
    (λ e same. same)

pub returns-clause-grows : goal.returns-clause-grows
returns-clause-grows c = MatchResult-weaker c.make.result c.make.ensures.tree (λ part made. made.grows) (λ e same. tt)
