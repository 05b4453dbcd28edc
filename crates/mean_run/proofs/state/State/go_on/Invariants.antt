use Rattle.std.proofs.Common.{◌≡◌, length}
use Rattle.cheri_c_sem.specs.Order.{Ordered}
use Rattle.cheri_c_sem.specs.Statements.{Continues}
use Rattle.mean_run.proofs.Jumping.{jumps}
use Rattle.mean_run.proofs.state.State.go_on.Given as goal

abbrev pub invariant-jump : goal.invariant-jump
invariant-jump g l =
    let ops = g.B.Operations.meaning l.fn.m in
    let p = l.s.p.now in
    let ws = l.fn.self.work in
    record {
      same : g.B.Operations.meaning l.m ≡ ops;
      left : Ordered p → jumps ops p ws Continues l.fn.self (g.B.Operations.held l.fn.m)
          ≡ jumps ops p ws Continues l.self (g.B.Operations.held l.m);
    }

abbrev pub decreases-jump : goal.decreases-jump
decreases-jump g l = length l.self.work
