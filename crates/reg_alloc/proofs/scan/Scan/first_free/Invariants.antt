use Rattle.std.proofs.Common.{◌<◌, ◌≤◌, ℕ, get_or}
use Rattle.reg_alloc.proofs.scan.Scan.first_free.Given as goal

abbrev pub invariant-loop-rank : goal.invariant-loop-rank
invariant-loop-rank l = (k : ℕ) → l.lowest ≤ k → k < l.rank → l.v.first < get_or l.self.free_from k 0
