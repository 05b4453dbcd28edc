use Rattle.std.proofs.Common.{subst}
use Rattle.purecap_abi.proofs.Ranges.{on_ok}
use Rattle.rv_select.specs.Choosing.{chosen, ChoosesSome}
use Rattle.rv_select.proofs.Formed.{keep_some_of}
use Rattle.rv_select.proofs.homes.keep_some.Goals as goal

pub returns-in-Some-clause-words : goal.returns-in-Some-clause-words
returns-in-Some-clause-words c =
    let a = c.args in
    on_ok c.keep.result _ _ c.keep.ensures.words
    (λ k is h. keep_some_of (chosen a.f.now) a.t c.in-Some.t a.from a.code.now c.keep.new.code c.in-Some.is is
    (k (subst (ChoosesSome a.f.now) c.in-Some.is h)))
