use Rattle.std.proofs.Common.{◌≡◌, vec_len}
use Rattle.tac_live.specs.Loops.{AreTops}
use Rattle.tac_live.proofs.BlockEnds.{IsTopBelow}
use Rattle.tac_live.proofs.loops.tops.Given as goal

abbrev pub invariant-loop-r : goal.invariant-loop-r
invariant-loop-r l = record {
  len : vec_len l.tops ≡ l.r-index;
  below : IsTopBelow l.reach l.r-index l.top;
  tops : AreTops l.reach l.tops.items;
}
