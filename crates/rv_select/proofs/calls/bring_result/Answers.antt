use Rattle.std.proofs.Common.{subst, arith}
use Rattle.purecap_abi.proofs.Ranges.{on_ok}
use Rattle.rv_select.specs.Choosing.{chosen, ChoosesSome}
use Rattle.rv_select.proofs.Formed.{result_of}
use Rattle.rv_select.proofs.calls.bring_result.Goals as goal

pub returns-in-Some-clause-words : goal.returns-in-Some-clause-words
returns-in-Some-clause-words c =
    let a = c.args in
    on_ok c.bring.result _ _ c.bring.ensures.words
    (λ b h. result_of (chosen a.f.now) a.value c.in-Some.t a.code.now c.bring.new.code c.in-Some.is
    (b (omega arith) (subst (ChoosesSome a.f.now) c.in-Some.is h)))
