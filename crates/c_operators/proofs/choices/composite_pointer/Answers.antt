use Rattle.std.proofs.lemmas.Result.{IfOk-weaker}
use Rattle.c_operators.proofs.Choosing.{composite_pointer_is}
use Rattle.c_operators.proofs.choices.composite_pointer.Goals as goal

pub returns : goal.returns
returns c =
    IfOk-weaker c.pointer_with.result _ _ (λ k h.
    composite_pointer_is c.args.nodes.now c.bare_elements.new.self c.bare_elements-2.new.self c.composite.new.self _
    c.args.s c.args.t _ _ _ k c.requires.first c.requires.second c.in_ok-a.ensures c.in_ok-b.ensures
    c.in_ok-of.ensures h) c.pointer_with.ensures
