use Rattle.std.proofs.Common.{refl, ap, sym, ◌∙◌, ◌∷◌, arith, length}
use Rattle.std.proofs.lemmas.Result.{err_from_is_err_and}
use Rattle.c_phrases.proofs.Made.{runs_more, runs_end, fails_memory}
use Rattle.c_phrases.proofs.OneByOne.{pieces_more, pieces_end}
use Rattle.c_phrases.proofs.runs.pieces.Goals as goal

pub loop-item-preserved : goal.loop-item-preserved
loop-item-preserved c =
    let s = c.loop-item.invariant.size in
    let room = s.room in
    let shorter = s.shorter in
    let grows = s.grows in
    let made = c.in_ok-part.ensures in
    let left = ap length made.rest in
    let taken = c.in-Some.ensures.size in
    let before = ap length c.in-Some.ensures.nodes in
    let more = made.size in
    record {
      size = record { room = omega arith; shorter = omega arith; grows = omega arith };
      low = let low = c.loop-item.invariant.low in let tall = made.low in let now = c.in_ok-push.ensures.size in
          omega arith;
      runs = runs_more c.loop-item.invariant.runs
          (pieces_more (c.in-Some.ensures.rest ∙ ap (λ v. c.in-Some.item ∷ v) (sym made.rest)) c.in-Some.ensures.found)
          c.in-Some.ensures.nodes made.grows (made.tree refl) c.in_ok-push.ensures.kids c.in_ok-push.ensures.size;
    }

pub returns-in_err-push-clause-tree : goal.returns-in_err-push-clause-tree
returns-in_err-push-clause-tree c =
    let p = err_from_is_err_and c.from_residual-in_err-push.result c.from_residual-in_err-push.ensures.1 in
    rw (p.1, p.2) (fails_memory _ _ c.in_err-push.ensures.full)

pub returns-clause-tree : goal.returns-clause-tree
returns-clause-tree c = runs_end c.loop-item.invariant.runs
    (pieces_end _ c.in_default.ensures.other) c.in_default.ensures.nodes c.in_default.ensures.left
