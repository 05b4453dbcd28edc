use Rattle.std.proofs.Common.{subst}
use Rattle.tac_ir.specs.declared.code.TacInstr.TheVariants as instr
use Rattle.tac_steps.specs.Machine.{effect}
use Rattle.tac_run.specs.Holdings.{ops_of}
use Rattle.tac_run.specs.Views.{next_of, now_of, Comes}
use Rattle.tac_run.proofs.state.State.perform.Goals as goal

pub returns-in-Store : goal.returns-in-Store
returns-in-Store c = rw c.in-Store.is (c.store.ensures c.args.program.p.now c.args.kinds.now)

pub returns-in-Zero : goal.returns-in-Zero
returns-in-Zero c = rw c.in-Zero.is (c.zero.ensures c.args.program.p.now c.args.kinds.now)

pub returns-in-CopyUnits : goal.returns-in-CopyUnits
returns-in-CopyUnits c = rw c.in-CopyUnits.is (c.copy.ensures c.args.program.p.now c.args.kinds.now)

pub returns-in-Call : goal.returns-in-Call
returns-in-Call c =
    let s = c.args.self.now in
    rw c.in-Call.is (subst (λ xs. Comes next_of (effect (ops_of s.memory) c.args.program.p.now c.args.kinds.now
    (instr.Call c.in-Call.to c.in-Call.fun xs) (now_of s)) s.memory.map c.call.result s) c.as_slice.ensures
    (c.call.ensures c.args.kinds.now))

pub returns-in-CallValue : goal.returns-in-CallValue
returns-in-CallValue c =
    rw (c.in-CallValue.is, ← c.as_slice-in-CallValue.ensures) (c.call_value.ensures c.args.kinds.now)

pub returns-in-Lib : goal.returns-in-Lib
returns-in-Lib c =
    rw (c.in-Lib.is, ← c.as_slice-in-Lib.ensures) (c.serve.ensures c.args.program.p.now c.args.kinds.now)
