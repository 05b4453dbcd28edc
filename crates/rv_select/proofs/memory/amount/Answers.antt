use Rattle.std.proofs.Common.{◌^◌, ◌<◌, subst, rules}
use Rattle.rv_select.specs.Choosing.{chosen, ChoosesAmount}
use Rattle.rv_select.proofs.Formed.{if_ok, amount_temp, amount_number}
use Rattle.rv_select.proofs.memory.amount.Goals as goal

pub returns-in-Temp-clause-words : goal.returns-in-Temp-clause-words
returns-in-Temp-clause-words c =
    let a = c.args in
    if_ok c.operand.result _ _ c.operand.ensures.words
    (λ b p h. amount_temp (chosen a.f.now) a.by a.code.now c.operand.new.code c.in-Temp.t c.right.result b c.in-Temp.is
    c.right.ensures (p (subst (ChoosesAmount a.f.now) c.in-Temp.is h)))

pub returns-in_ok-long_number-in-Number-clause-words : goal.returns-in_ok-long_number-in-Number-clause-words
returns-in_ok-long_number-in-Number-clause-words c =
    let a = c.args in
    let small : c.in-Number.n < 2 ^ 64 = search rules in
    λ h. amount_number (chosen a.f.now) a.by a.code.now c.long_number.new.self c.in-Number.n c.right-in-Number.result
    c.right-in-Number-2.result c.in-Number.is small c.right-in-Number.ensures
    c.right-in-Number-2.ensures c.in_ok-long_number-in-Number.ensures.text
