use Rattle.std.proofs.Common.{rules}
use Rattle.cheri_c_sem.specs.Programs.{parameter_of}
use Rattle.mean_run.specs.Views.{now_of}
use Rattle.mean_run.proofs.Calling.{none_left}
use Rattle.mean_run.proofs.state.State.pass.Goals as goal

pub returns-in-None-clause-did : goal.returns-in-None-clause-did
returns-in-None-clause-did g c = λ there. (
  none_left (g.B.Operations.meaning c.args.m.now) c.args.d.now.pos
      (parameter_of c.args.s.now.p.now c.args.d.now.vars) c.args.d.now.params c.params.x-index c.params.values.items
      (now_of c.params.self (g.B.Operations.held c.params.m)) _ (search rules) (c.params.invariant.left there),
  c.params.invariant.frame there,
)
