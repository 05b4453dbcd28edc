use Rattle.std.proofs.Common.{◌<◌, ap, length, subst}
use Rattle.cheri_c_sem.specs.Programs.{lengths_of}
use Rattle.tac_run.specs.Holdings.{Holding}
use Rattle.tac_run.proofs.Calling.{none_waits}
use Rattle.tac_run.proofs.Meant.{first_is}
use Rattle.tac_run.proofs.Starts.{first_room}
use Rattle.std.specs.Prelude.{map}
use Rattle.obj_mem.specs.Values.{value_of}
use Rattle.tac_run.proofs.running.first.Goals as goal

pub add_locals-requires-clause-room : goal.add_locals-requires-clause-room
add_locals-requires-clause-room c = λ n h.
    first_room c.args.program.p.now c.args.memory.map c.requires.ready c.args.program.p.now.main c.args.address
    c.requires.entered n (subst (λ vs. n < length (lengths_of c.args.program.p.now vs)) c.variables.ensures h)

pub returns-clause-moment : goal.returns-clause-moment
returns-clause-moment c =
    first_is c.args.program.t.now c.args.program.p.now c.args.memory.map c.args.turns c.args.address
    c.count-first.result
    _ _ _ c.args.memory.store _ c.variables.result.now (none_waits c.new-2.result.items c.new-2.ensures.items)
    (ap (map value_of) c.new.ensures.items) c.in_ok-temps.ensures c.count-first.ensures
    (ap (λ (h : Holding). h.store) c.in_ok-add_locals.ensures) c.variables.ensures c.requires.start
