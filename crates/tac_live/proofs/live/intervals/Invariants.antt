use Rattle.std.proofs.Common.{◌≡◌, ℕ, Some, vec_len}
use Rattle.std.specs.Prelude.{slice_get}
use Rattle.reg_alloc.specs.declared.intervals.Interval.{Interval}
use Rattle.tac_ir.specs.Intervals.{IsLive}
use Rattle.tac_live.proofs.live.intervals.Given as goal

abbrev pub invariant-loop-u : goal.invariant-loop-u
invariant-loop-u l = record {
  index : l.t ≡ l.u-index;
  len : vec_len l.live ≡ l.t;
  live : (k : ℕ) (i : Interval) → slice_get l.live.items k ≡ Some i → IsLive l.f k i.first i.last;
}
