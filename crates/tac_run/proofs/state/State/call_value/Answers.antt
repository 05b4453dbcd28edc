use Rattle.std.proofs.Common.{Ok, Err, map, subst}
use Rattle.mean_steps.specs.Parts.{called as called_of}
use Rattle.tac_steps.specs.Machine.{value_in}
use Rattle.tac_run.specs.Holdings.{ops_of}
use Rattle.tac_run.specs.Views.{now_of, fits_of, Finds}
use Rattle.tac_run.proofs.Leading.{found, found_not}
use Rattle.tac_run.proofs.state.State.call_value.Goals as goal

pub returns-in-Err : goal.returns-in-Err
returns-in-Err c = λ kinds.
    let ops = ops_of c.args.self.now.memory in
    let n = now_of c.args.self.now in
    found_not _ n c.in-Err.stop (map (value_in n) c.args.args.now) c.args.to c.args.self.now.memory.map c.args.self.now
    (subst (λ v. Finds (called_of ops c.args.pos (fits_of c.args.program.p.now c.args.of) v n) n (Err c.in-Err.stop))
    c.temp.ensures (c.in-Err.ensures ops n))

pub returns-in-Ok : goal.returns-in-Ok
returns-in-Ok c = λ kinds.
    let ops = ops_of c.args.self.now.memory in
    let n = now_of c.args.self.now in
    found _ n c.in-Ok.fun (map (value_in n) c.args.args.now) c.args.to c.args.self.now.memory.map c.call.result
    c.args.self.now
    (subst (λ v. Finds (called_of ops c.args.pos (fits_of c.args.program.p.now c.args.of) v n) n (Ok c.in-Ok.fun))
    c.temp.ensures (c.in-Ok.ensures ops n)) (c.call.ensures kinds)
