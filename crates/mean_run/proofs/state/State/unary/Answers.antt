use Rattle.mean_run.proofs.Finishing.{signed_at, same_act}
use Rattle.mean_run.proofs.state.State.unary.Goals as goal

pub returns : goal.returns
returns g c = λ p k x is_kind.
    let ops = g.B.Operations.meaning c.args.m.now in
    let held = g.B.Operations.held c.args.m.now in
    same_act _ _ _ c.give_answer.result
    (signed_at ops p held c.args.self.now c.take-v.new.self c.take-v.new.self c.args.pos c.take-v.result c.take-v.result
    c.take-v.ensures.state c.take-v.ensures.value c.args.op _ _ _ x is_kind c.signed.ensures)
    (c.give_answer.ensures p held)
