use Rattle.std.proofs.Common.{[], ◌∷◌, ◌++◌, ◌∙◌, refl, ap, arith}
use Rattle.rv_instr.specs.declared.instr.Instr.{Instr}
use Rattle.rv_select.specs.Choosing.{chosen}
use Rattle.rv_emit.proofs.Appended.{on_both}
use Rattle.rv_select.proofs.Called.{through_called}
use Rattle.rv_select.proofs.calls.call_value.Goals as goal

pub returns-clause-words : goal.returns-clause-words
returns-clause-words c =
    let a = c.args in
    on_both c.keep_some.result _ _ _ c.keep_some.ensures.words c.keep_some.ensures.size
    (λ keep size v h g. through_called (chosen a.f.now) a.to a.callee.value c.way-2.result a.args.now a.callee.pos
    a.code.now c.bring.new.code c.arguments.new.code c.put_at.new.self c.keep_some.new.code c.way-2.ensures
    (rw (c.way-2.ensures, ← c.way.ensures) (c.in_ok-bring.ensures.words (omega (arith, c.way.ensures)) v))
    c.in_ok-bring.ensures.size.2 (c.in_ok-arguments.ensures.words h) c.in_ok-arguments.ensures.size.2
    (c.in_ok-put_at.ensures.text ∙ ap (λ (i : Instr). c.arguments.new.code.text ++ i ∷ []) c.jump_through.ensures.is)
    c.in_ok-put_at.ensures.links (keep refl g) size.2)
