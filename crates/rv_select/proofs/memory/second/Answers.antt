use Rattle.std.proofs.Common.{subst}
use Rattle.rv_select.specs.Choosing.{chosen, ChoosesSome}
use Rattle.rv_select.proofs.Formed.{if_ok, second_some}
use Rattle.rv_select.proofs.memory.second.Goals as goal

pub returns-in-Some-clause-words : goal.returns-in-Some-clause-words
returns-in-Some-clause-words c =
    let a = c.args in
    if_ok c.operand.result _ _ c.operand.ensures.words
    (λ r p h. second_some (chosen a.f.now) a.b a.code.now c.operand.new.code c.in-Some.t c.right.result r c.in-Some.is
    c.right.ensures (p (subst (ChoosesSome a.f.now) c.in-Some.is h)))
