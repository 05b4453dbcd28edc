use Rattle.std.proofs.Common.{sym, ap, ◌∙◌}
use Rattle.cheri_c_sem.specs.Types.{kind_or_int}
use Rattle.mean_run.proofs.Finishing.{loaded_at, same_act}
use Rattle.mean_run.proofs.state.State.loaded.Goals as goal

pub returns-else-facts : goal.returns-else-facts
returns-else-facts g c = λ x.
    let ops = g.B.Operations.meaning c.args.m.now in
    let held = g.B.Operations.held c.args.m.now in
    let own = c.facts-facts.ensures.own in
    same_act _ _ _ c.give_result.result
    (loaded_at ops c.args.s.now.p.now held c.args.self.now _ c.args.self.now c.take_place-from.result _ _ _ x
    (sym own.is_record ∙ c.if-facts.false) (c.kind_or_int.ensures ∙ ap kind_or_int own.kind)
    c.take_place-from.ensures.place c.take_place-from.ensures.state)
    (c.give_result.ensures c.args.s.now.p.now held _ c.load-v.ensures)
