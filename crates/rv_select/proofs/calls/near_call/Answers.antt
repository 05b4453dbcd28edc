use Rattle.std.proofs.Common.{refl}
use Rattle.rv_select.specs.Choosing.{chosen}
use Rattle.rv_emit.proofs.Appended.{on_both}
use Rattle.rv_select.proofs.Called.{call_selected}
use Rattle.rv_select.proofs.calls.near_call.Goals as goal

pub returns-clause-words : goal.returns-clause-words
returns-clause-words c =
    let a = c.args in
    on_both c.keep_some.result _ _ _ c.keep_some.ensures.size c.keep_some.ensures.words
    (λ size keep h g. call_selected (chosen a.f.now) a.to a.args.now a.code.now c.arguments.new.code c.call.new.self
    c.keep_some.new.code a.fun (c.in_ok-arguments.ensures.words h) c.in_ok-arguments.ensures.size.2
    c.in_ok-call.ensures.text c.in_ok-call.ensures.links (keep refl g) size.2)
