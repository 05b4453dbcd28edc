use Rattle.std.proofs.Common.{sym, arith}
use Rattle.tac_run.proofs.Acts.{entered_below}
use Rattle.tac_run.proofs.run.Run.call.Goals as goal

pub open-requires-clause-room : goal.open-requires-clause-room
open-requires-clause-room c = λ n h.
    let s = c.args.self.now in
    let below = entered_below c.args.program.p.now s.now.memory.map c.requires.ready.roomy c.args.fun s.now.frame
    c.in-Some.address (sym c.in-Some.ensures) in
    let lower = below.locals n h in
    omega arith
