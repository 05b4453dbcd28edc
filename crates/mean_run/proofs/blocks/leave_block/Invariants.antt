use Rattle.std.proofs.Common.{◌≡◌, drop}
use Rattle.std.specs.Prelude.{map}
use Rattle.cheri_c_sem.specs.Programs.{declared}
use Rattle.mean_steps.specs.Parts.{leave}
use Rattle.mean_run.specs.Views.{now_of, vars_at}
use Rattle.mean_run.proofs.blocks.leave_block.Given as goal

abbrev pub invariant-vars : goal.invariant-vars
invariant-vars g l =
    let ops = g.B.Operations.meaning l.fn.m in
    record {
      same : g.B.Operations.meaning l.m ≡ ops;
      left : leave ops (map (declared l.s.p.now (vars_at l.s.p.now l.f)) l.vars)
          (now_of l.state (g.B.Operations.held l.fn.m))
          ≡ leave ops (map (declared l.s.p.now (vars_at l.s.p.now l.f)) (drop l.x-index l.vars))
          (now_of l.state (g.B.Operations.held l.m));
    }
