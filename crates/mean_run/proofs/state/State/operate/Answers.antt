use Rattle.mean_run.proofs.Finishing.{operated_at, same_act}
use Rattle.mean_run.proofs.state.State.operate.Goals as goal

pub returns : goal.returns
returns g c = λ p o x y is_op.
    let ops = g.B.Operations.meaning c.args.m.now in
    let held = g.B.Operations.held c.args.m.now in
    same_act _ _ _ c.give_answer.result
    (operated_at ops p held c.args.self.now c.take-y.new.self c.take-x.new.self c.args.pos c.take-x.result
    c.take-y.result c.take-y.ensures.state c.take-y.ensures.value c.take-x.ensures.state c.take-x.ensures.value _ _ _
    x y
    is_op c.operated.ensures)
    (c.give_answer.ensures p held)
