use Rattle.std.proofs.Common.{refl, ap, sym, ◌∙◌, arith, Some, length}
use Rattle.std.proofs.lemmas.Result.{err_from_is_err_and, MatchResult-weaker}
use Rattle.c_tree.specs.declared.syntax.NodeKind.TheVariants.{Specifier, Qualifiers}
use Rattle.c_tree.specs.Syntax.{node, nil, more}
use Rattle.c_phrases.specs.Reading.{◌>>=◌, qualifiers}
use Rattle.c_phrases.proofs.Made.{runs_more, runs_end, grows_on, fails_memory}
use Rattle.c_phrases.proofs.runs.qualifiers.Goals as goal

pub loop-word-preserved : goal.loop-word-preserved
loop-word-preserved c =
    let s = c.loop-word.invariant.size in
    let room = s.room in
    let shorter = s.shorter in
    let grows = s.grows in
    let made = c.in_ok-part.ensures in
    let left = ap length made.rest in
    let taken = c.in-Some.ensures.size in
    let before = ap length c.in-Some.ensures.nodes in
    let longer = made.size in
    record {
      size = record { room = omega arith; shorter = omega arith; grows = omega arith };
      low = let low = c.loop-word.invariant.low in let tall = made.low in let now = c.in_ok-push.ensures.size in
          omega arith;
      runs = runs_more c.loop-word.invariant.runs
          (c.in-Some.ensures.found ∙ ap (λ v. (
            more (node (Specifier c.in-Some.word) c.in-Some.item nil)
                (qualifiers v).0,
            (qualifiers v).1,
          )) (sym made.rest))
          c.in-Some.ensures.nodes made.grows (made.tree refl) c.in_ok-push.ensures.kids c.in_ok-push.ensures.size;
    }

pub returns-in_err-push-clause-tree : goal.returns-in_err-push-clause-tree
returns-in_err-push-clause-tree c =
    let p = err_from_is_err_and c.from_residual-in_err-push.result c.from_residual-in_err-push.ensures.1 in
    rw (p.1, p.2) (fails_memory _ _ c.in_err-push.ensures.full)

pub returns-clause-tree : goal.returns-clause-tree
returns-clause-tree c = MatchResult-weaker c.join.result c.join.ensures.tree
    (λ part made.
    let run = runs_end {next = c.take_qualifier.new.cursor} c.loop-word.invariant.runs c.in_default.ensures.other
    c.in_default.ensures.nodes c.in_default.ensures.left in
    record {
      tree = node Qualifiers c.args.star.now run.trees;
      means = made.means run.trees c.place.ensures refl run.holds;
      reads = ap (λ v. v >>= λ a. Some (node Qualifiers c.args.star.now a.0, a.1)) run.reads
          ∙ ap (λ v. Some (node Qualifiers c.args.star.now run.trees, v)) (sym c.join.ensures.rest);
      grows = grows_on run.grows made.grows;
    })
    (λ e same. fails_memory e _ same)
