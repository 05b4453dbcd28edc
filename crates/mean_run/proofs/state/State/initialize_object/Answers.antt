use Rattle.std.proofs.Common.{◌≡◌, true, false, sym, ap, subst, ◌∙◌}
use Rattle.c_tree.specs.Layout.{bare}
use Rattle.cheri_c_sem.specs.Types.{align_in, is_record, kind_or_int, size_in, unit_of}
use Rattle.mean_run.specs.Sizes.{IsSmall}
use Rattle.mean_run.proofs.state.State.initialize_object.Goals as goal

pub returns-then-facts-clause-does : goal.returns-then-facts-clause-does
returns-then-facts-clause-does g c = λ fit small few e.
    let p = c.args.s.now.p.now in
    let t = c.type_of.result in
    let facts = c.facts-facts.ensures in
    let is : is_record (bare p.types t) ≡ true = sym facts.own.is_record ∙ c.if-facts.true in
    let sized = subst (IsSmall p) (sym c.type_of.ensures) small in
    let size : c.facts-facts.result.size ≡ size_in p.types t = facts.size sized in
    let align = facts.align sized in
    let unit : c.unit.result ≡ unit_of (align_in p.types t) =
    c.unit.ensures.is (rw align (fit.units t)) ∙ ap unit_of align in
    rw (← c.type_of.ensures, is, ← size, ← unit) (c.fill_part.ensures.does few p e)

pub returns-else-facts-clause-does : goal.returns-else-facts-clause-does
returns-else-facts-clause-does g c = λ fit small few e.
    let p = c.args.s.now.p.now in
    let facts = c.facts-facts.ensures in
    let is : is_record (bare p.types c.type_of.result) ≡ false = sym facts.own.is_record ∙ c.if-facts.false in
    rw (← c.type_of.ensures, is) (c.set_part.ensures.does few p _ e
    (c.kind_or_int.ensures ∙ ap kind_or_int facts.own.kind))
