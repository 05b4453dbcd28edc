use Rattle.std.proofs.Common.{◌≡◌, ◌+◌, max, [], ◌∷◌, ◌++◌, slice_index, sym, subst, arith}
use Rattle.tac_live.specs.Loops.{IsTop, AreTops}
use Rattle.tac_live.proofs.BlockEnds.{top_here, top_below}
use Rattle.tac_live.proofs.Pushes.{each_push}
use Rattle.tac_live.proofs.loops.tops.Goals as goal

pub loop-r-preserved : goal.loop-r-preserved
loop-r-preserved c =
    let reach = c.args.reach.now in
    let k = c.loop-r.r-index in
    let top = c.max-top.result in
    let e : top ≡ max c.loop-r.top (slice_index reach k) = c.max-top.ensures in
    let here : IsTop reach k top =
    subst (λ t. IsTop reach k t) (sym e) (top_here reach c.loop-r.top k c.loop-r.invariant.below) in
    let items : c.push.new.self.items ≡ c.loop-r.tops.items ++ top ∷ [] = c.in_ok-push.ensures.items in
    record {
      len = let l = c.in_ok-push.ensures.len in omega arith;
      below = top_below reach k (k + 1) top (omega arith) here;
      tops = subst (λ xs. AreTops reach xs) (sym items)
          (each_push (IsTop reach) c.loop-r.tops.items k top
          (let l = c.loop-r.invariant.len in let ok = c.loop-r.tops.ok.0 in omega arith) c.loop-r.invariant.tops
          here);
    }
