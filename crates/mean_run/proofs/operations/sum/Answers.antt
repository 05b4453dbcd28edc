use Rattle.std.proofs.Common.{◌≡◌, sym, refl, true, false, ◌∙◌}
use Rattle.cheri_c_sem.specs.Expressions.{bare_type}
use Rattle.cheri_c_sem.specs.Types.{is_pointer}
use Rattle.mean_run.proofs.operations.sum.Goals as goal

pub returns-then-facts_at : goal.returns-then-facts_at
returns-then-facts_at c = λ vars small.
    let e : is_pointer (bare_type c.args.s.now.p.now vars c.args.a) ≡ true =
    sym c.facts_at.ensures.own.pointer ∙ c.if-facts_at.true in
    rw (e, c.element_size.ensures vars (rw e at small), c.kind_at.ensures vars) refl

pub returns-else-facts_at : goal.returns-else-facts_at
returns-else-facts_at c = λ vars small.
    let e : is_pointer (bare_type c.args.s.now.p.now vars c.args.a) ≡ false =
    sym c.facts_at.ensures.own.pointer ∙ c.if-facts_at.false in
    rw (e, c.element_size-else-facts_at.ensures vars (rw e at small), c.kind_at-else-facts_at.ensures vars) refl
