use Rattle.std.proofs.Common.{◌≡◌, drop}
use Rattle.std.specs.Prelude.{map}
use Rattle.cheri_c_sem.specs.Programs.{declared}
use Rattle.mean_steps.specs.Parts.{enter}
use Rattle.mean_run.specs.Views.{now_of, moment_of, vars_at}
use Rattle.mean_run.proofs.blocks.enter_block.Given as goal

abbrev pub invariant-vars : goal.invariant-vars
invariant-vars g l =
    let ops = g.B.Operations.meaning l.fn.m in
    record {
      same : g.B.Operations.meaning l.m ≡ ops;
      left : enter ops (map (declared l.s.p.now (vars_at l.s.p.now l.f)) l.vars)
          (now_of l.fn.state (g.B.Operations.held l.fn.m))
          ≡ enter ops (map (declared l.s.p.now (vars_at l.s.p.now l.f)) (drop l.x-index l.vars))
          (now_of l.state (g.B.Operations.held l.m));
      frame : moment_of l.s.p.now l.state (g.B.Operations.held l.m)
          ≡ record (moment_of l.s.p.now l.fn.state (g.B.Operations.held l.fn.m))
          { now = now_of l.state (g.B.Operations.held l.m) };
    }
