use Rattle.mean_types.specs.Views.{kind_of}
use Rattle.mean_run.proofs.Doing.{tested_on, tested_over, went_by}
use Rattle.mean_run.proofs.state.State.by_truth.Goals as goal

pub returns-in-Err : goal.returns-in-Err
returns-in-Err g c = λ k is_kind.
    tested_over (g.B.Operations.meaning c.args.m.now) (g.B.Operations.held c.args.m.now) c.args.self.now c.args.pos
    (kind_of c.args.kind) k _ is_kind c.take-v.ensures.value _ _ c.in-Err.ensures c.fault_end.ensures

pub returns-in-Ok : goal.returns-in-Ok
returns-in-Ok g c = λ k is_kind.
    went_by _ _ c.args.first c.args.second c.args.self.now _ _ c.in-Ok.holds _
    (tested_on (g.B.Operations.meaning c.args.m.now) (g.B.Operations.held c.args.m.now) c.args.self.now c.args.pos
    (kind_of c.args.kind) k _ is_kind c.take-v.ensures.value _ c.in-Ok.ensures)
    c.take-v.ensures.state c.go_by.ensures
