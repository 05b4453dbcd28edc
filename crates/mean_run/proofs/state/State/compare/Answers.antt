use Rattle.mean_run.proofs.Finishing.{compared_at, same_act}
use Rattle.mean_run.proofs.state.State.compare.Goals as goal

pub returns : goal.returns
returns g c = λ p k x y is_kind.
    let ops = g.B.Operations.meaning c.args.m.now in
    let held = g.B.Operations.held c.args.m.now in
    same_act _ _ _ c.give_answer.result
    (compared_at ops p held c.args.self.now c.take-y.new.self c.take-x.new.self c.args.pos c.take-x.result
    c.take-y.result c.take-y.ensures.state c.take-y.ensures.value c.take-x.ensures.state c.take-x.ensures.value
    c.args.op _ _ _ _ x y is_kind (c.truth_of.ensures ops) c.compared.ensures)
    (c.give_answer.ensures p held)
