use Rattle.std.proofs.Common.{[], ◌∷◌, ◌++◌, ◌∙◌, refl, ap}
use Rattle.rv_instr.specs.declared.instr.Instr.{Instr}
use Rattle.rv_select.specs.Choosing.{chosen}
use Rattle.rv_emit.specs.Growing.{Links}
use Rattle.rv_emit.proofs.Appended.{on_both}
use Rattle.rv_select.proofs.Called.{far_selected}
use Rattle.rv_select.proofs.calls.far_call.Goals as goal

pub returns-clause-words : goal.returns-clause-words
returns-clause-words c =
    let a = c.args in
    on_both c.keep_some.result _ _ _ c.keep_some.ensures.words c.keep_some.ensures.size
    (λ keep size h g lt. far_selected (chosen a.f.now) a.to c.way.result a.args.now a.code.now c.find.new.code
    c.arguments.new.code c.put.new.self c.keep_some.new.code a.fun c.way.ensures (c.in_ok-find.ensures.words lt)
    c.in_ok-find.ensures.size.2 (c.in_ok-arguments.ensures.words h) c.in_ok-arguments.ensures.size.2
    (c.in_ok-put.ensures.text ∙ ap (λ (i : Instr). c.arguments.new.code.text ++ i ∷ []) c.jump_through.ensures.is)
    c.in_ok-put.ensures.size.1 (keep refl g) size.2)
