use Rattle.std.proofs.Common.{sym, ap, ◌∙◌}
use Rattle.cheri_c_sem.specs.Types.{kind_or_int}
use Rattle.mean_run.proofs.Finishing.{converted_at, same_act}
use Rattle.mean_run.proofs.state.State.convert.Goals as goal

pub returns-else-facts : goal.returns-else-facts
returns-else-facts g c = λ vars x kept.
    let ops = g.B.Operations.meaning c.args.m.now in
    let held = g.B.Operations.held c.args.m.now in
    let p = c.args.s.now.p.now in
    let own = c.facts-facts.ensures.own in
    same_act _ _ _ c.give_answer.result
    (converted_at ops p held c.args.self.now c.take-v.new.self c.args.self.now c.args.pos vars c.take-v.result _ _
    _ _ _ x (sym own.void ∙ c.if-facts.false) kept (c.kind_at.ensures vars)
    (c.kind_or_int.ensures ∙ ap kind_or_int own.kind) c.take-v.ensures.value c.take-v.ensures.state c.converted.ensures)
    (c.give_answer.ensures p held)
