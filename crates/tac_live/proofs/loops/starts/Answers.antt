use Rattle.std.proofs.Common.{◌≡◌, ◌+◌, [], ◌∷◌, ◌++◌, sym, subst, refl, arith}
use Rattle.tac_live.specs.Loops.{IsStart, AreStarts}
use Rattle.tac_live.proofs.BlockEnds.{start_here, start_on, start_below}
use Rattle.tac_live.proofs.Pushes.{each_push}
use Rattle.tac_live.proofs.loops.starts.Goals as goal
use Rattle.tac_live.proofs.loops.starts.Goals.{then-top-at, else-top-at}

pub loop-k-preserved : goal.loop-k-preserved
loop-k-preserved c =
    let tops = c.args.tops.now in
    let k = c.loop-k.k in
    let start = c.if-top-at.start in
    let here : IsStart tops k start = elim c.if-top-at.branch [
      | then-top-at w ↦ subst (λ s. IsStart tops k s) (sym w.start-is)
          (start_here tops k c.loop-k.start c.loop-k.top c.loop-k.invariant.below (omega arith))
      | else-top-at w ↦ subst (λ s. IsStart tops k s) (sym w.start-is)
          (start_on tops k c.loop-k.start c.loop-k.top c.loop-k.invariant.below (omega arith))
    ] in
    let items : c.push.new.self.items ≡ c.loop-k.starts.items ++ start ∷ [] = c.in_ok-push.ensures.items in
    record {
      len = let l = c.in_ok-push.ensures.len in omega arith;
      below = start_below tops k (k + 1) start _ (omega arith) here refl;
      starts = subst (λ xs. AreStarts tops xs) (sym items)
          (each_push (IsStart tops) c.loop-k.starts.items k start
          (let l = c.loop-k.invariant.len in let ok = c.loop-k.starts.ok.0 in omega arith) c.loop-k.invariant.starts
          here);
    }
