use Rattle.mean_types.specs.Views.{kind_of}
use Rattle.mean_run.proofs.Branching.{do_test_ends, goes_round_or_on}
use Rattle.mean_run.proofs.Doing.{tested_on, tested_over}
use Rattle.mean_run.proofs.state.State.tested_behind.Goals as goal

pub returns-in-Err : goal.returns-in-Err
returns-in-Err g c = λ p j e is_kind l.
    let ops = g.B.Operations.meaning c.args.m.now in
    let held = g.B.Operations.held c.args.m.now in
    do_test_ends ops held p c.args.f c.args.k c.args.body c.args.self.now c.args.self.now c.args.self.now c.args.pos j e
    _
    l (tested_over ops held c.args.self.now c.args.pos (kind_of c.args.kind) j _ is_kind c.take-v.ensures.value _ _
    c.in-Err.ensures c.fault_end.ensures)

pub returns-in-Ok : goal.returns-in-Ok
returns-in-Ok g c = λ p j e is_kind l.
    let ops = g.B.Operations.meaning c.args.m.now in
    let held = g.B.Operations.held c.args.m.now in
    goes_round_or_on ops held p c.args.f c.args.k c.args.body c.args.self.now c.take-v.new.self
    c.round_if.new.self c.args.pos j e c.in-Ok.holds _ l
    (tested_on ops held c.args.self.now c.args.pos (kind_of c.args.kind) j _ is_kind c.take-v.ensures.value _
    c.in-Ok.ensures) c.take-v.ensures.state (c.round_if.ensures p ops held)
