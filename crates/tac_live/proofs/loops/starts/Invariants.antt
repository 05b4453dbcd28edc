use Rattle.std.proofs.Common.{◌≡◌, vec_len}
use Rattle.tac_live.specs.Loops.{AreStarts}
use Rattle.tac_live.proofs.BlockEnds.{IsStartBelow}
use Rattle.tac_live.proofs.loops.starts.Given as goal

abbrev pub invariant-loop-k : goal.invariant-loop-k
invariant-loop-k l = record {
  len : vec_len l.starts ≡ l.k;
  below : IsStartBelow l.tops l.k l.start l.top;
  starts : AreStarts l.tops l.starts.items;
}
