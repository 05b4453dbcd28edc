use Rattle.std.proofs.Common.{◌≡◌, true, false, sym, ap, ◌∙◌}
use Rattle.c_tree.specs.Layout.{bare}
use Rattle.cheri_c_sem.specs.Types.{align_in, is_record, size_in, unit_of}
use Rattle.mean_run.proofs.state.State.assign.Goals as goal

pub returns-then-facts-clause-does : goal.returns-then-facts-clause-does
returns-then-facts-clause-does g c = λ fit vars small x y.
    let p = c.args.s.now.p.now in
    let t = c.args.e.now.of in
    let facts = c.facts-facts.ensures in
    let e : is_record (bare p.types t) ≡ true = sym facts.own.is_record ∙ c.if-facts.true in
    let size : c.facts-facts.result.size ≡ size_in p.types t = facts.size small in
    let align = facts.align small in
    let unit : c.unit.result ≡ unit_of (align_in p.types t) =
    c.unit.ensures.is (rw align (fit.units t)) ∙ ap unit_of align in
    rw (e, ← size, ← unit) (c.copy_over.ensures.does p x y)

pub returns-else-facts-clause-does : goal.returns-else-facts-clause-does
returns-else-facts-clause-does g c = λ fit vars small x y.
    let p = c.args.s.now.p.now in
    let e : is_record (bare p.types c.args.e.now.of) ≡ false =
    sym c.facts-facts.ensures.own.is_record ∙ c.if-facts.false in
    rw e (c.put.ensures.does p _ x y (c.kind_at.ensures vars))
