use Rattle.std.proofs.Common.{◌≡◌, length}
use Rattle.obj_mem.specs.Values.{value_of}
use Rattle.cheri_c_sem.specs.Order.{Ordered}
use Rattle.cheri_c_sem.specs.Statements.{Returns}
use Rattle.mean_run.proofs.Jumping.{jumps}
use Rattle.mean_run.proofs.state.State.give_back.Given as goal

abbrev pub invariant-jump : goal.invariant-jump
invariant-jump g l =
    let ops = g.B.Operations.meaning l.fn.m in
    let p = l.s.p.now in
    let ws = l.fn.self.work in
    record {
      same : g.B.Operations.meaning l.m ≡ ops;
      left : Ordered p → jumps ops p ws (Returns (value_of l.v)) l.fn.self (g.B.Operations.held l.fn.m)
          ≡ jumps ops p ws (Returns (value_of l.v)) l.self (g.B.Operations.held l.m);
    }

abbrev pub decreases-jump : goal.decreases-jump
decreases-jump g l = length l.self.work
