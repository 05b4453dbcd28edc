use Rattle.std.proofs.Common.{arith}
use Rattle.purecap_abi.proofs.Ranges.{on_ok}
use Rattle.rv_select.proofs.Formed.{argument_of}
use Rattle.rv_select.proofs.services.first_argument.Goals as goal

pub returns-in-Some-clause-words : goal.returns-in-Some-clause-words
returns-in-Some-clause-words c =
    let a = c.args in
    on_ok c.bring.result _ _ c.bring.ensures.words
    (λ b. argument_of a.f.now a.args.now c.in-Some.t.now a.code.now c.bring.new.code c.in-Some.ensures.value
    (b (omega arith)))
