use Rattle.std.proofs.Common.{◌≡◌, ℕ, ◌<◌, ◌≤◌, length, slice_index, vec_len}
use Rattle.tac_live.specs.Loops.{IsEnd}
use Rattle.tac_live.proofs.loops.ends.Given as goal

abbrev pub invariant-loop-k : goal.invariant-loop-k
invariant-loop-k l = record {
  len : vec_len l.ends ≡ length l.tops;
  within : l.k ≤ length l.tops;
  here : l.k < length l.tops → IsEnd l.tops l.k l.end;
  ends : (n : ℕ) → l.k ≤ n → n < length l.tops → IsEnd l.tops n (slice_index l.ends.items n);
}

abbrev pub decreases-loop-k : goal.decreases-loop-k
decreases-loop-k l = l.k
