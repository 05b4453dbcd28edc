use Rattle.tac_emit.specs.Emitted.{Pushed}
use Rattle.tac_ir.specs.declared.code.TacInstr.TheVariants as instr
use Rattle.std.proofs.Common.{IfOk, subst}
use Rattle.tac_emit.proofs.emitter.Emitter.call.Goals as goal

pub returns-clause-pushed : goal.returns-clause-pushed
returns-clause-pushed c =
    subst (λ z. IfOk c.push.result (λ r. Pushed c.args.self.now c.push.new.self (instr.Call c.args.to c.args.fun z)))
    c.from_vec-args.ensures c.push.ensures.pushed
