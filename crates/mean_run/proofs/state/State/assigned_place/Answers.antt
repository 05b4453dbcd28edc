use Rattle.std.proofs.Common.{◌≡◌, true, sym, ap, ◌∙◌}
use Rattle.c_tree.specs.Layout.{bare}
use Rattle.cheri_c_sem.specs.Types.{align_in, is_record, size_in, unit_of}
use Rattle.mean_run.proofs.Placing.{assigned_nowhere}
use Rattle.mean_run.proofs.Stating.{both_same}
use Rattle.mean_run.proofs.state.State.assigned_place.Goals as goal

pub returns-then-facts-clause-does : goal.returns-then-facts-clause-does
returns-then-facts-clause-does g c = λ fit vars small x y.
    let p = c.args.s.now.p.now in
    let t = c.args.e.now.of in
    let facts = c.facts-facts.ensures in
    let e : is_record (bare p.types t) ≡ true = sym facts.own.is_record ∙ c.if-facts.true in
    let size : c.facts-facts.result.size ≡ size_in p.types t = facts.size small in
    let align = facts.align small in
    let unit : c.unit.result ≡ unit_of (align_in p.types t) =
    c.unit.ensures.is (rw align (fit.units t)) ∙ ap unit_of align in
    rw (e, ← size, ← unit) (c.copy_place.ensures.does p x y)

pub returns-else-facts-clause-does : goal.returns-else-facts-clause-does
returns-else-facts-clause-does g c = λ fit vars small x y.
    let ops = g.B.Operations.meaning c.args.m.now in
    let held = g.B.Operations.held c.args.m.now in
    let p = c.args.s.now.p.now in
    assigned_nowhere ops p c.args.a c.args.a held held c.args.self.now c.nowhere.new.self c.nowhere.result
    (is_record (bare p.types c.args.e.now.of)) c.args.e.now.pos _ _ _ x y
    (sym c.facts-facts.ensures.own.is_record ∙ c.if-facts.false) (both_same _ _ c.nowhere.result c.nowhere.ensures)
