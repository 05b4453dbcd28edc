use Rattle.std.proofs.Common.{refl, arith}
use Rattle.purecap_abi.proofs.Ranges.{on_ok}
use Rattle.rv_select.proofs.Taken.{malloc_served}
use Rattle.rv_select.proofs.services.service.Goals as goal

pub returns-in_ok-allocate-in-Malloc-clause-words : goal.returns-in_ok-allocate-in-Malloc-clause-words
returns-in_ok-allocate-in-Malloc-clause-words c =
    let a = c.args in
    let times = c.saturating_mul.ensures in
    on_ok c.keep_some-in-Malloc.result _ _ c.keep_some-in-Malloc.ensures.words
    (λ k lt h g. malloc_served a.f.now a.to a.code.now c.first_argument-in-Malloc.new.code c.allocate.new.code
    c.keep_some-in-Malloc.new.code c.saturating_mul.result a.op a.args.now c.in-Malloc.is
    (λ l. omega (arith, times, l)) c.in_ok-first_argument-in-Malloc.ensures.words
    c.in_ok-allocate-in-Malloc.ensures.text (k refl) lt h g)
