use Rattle.std.proofs.Common.{refl, sym, ap, subst, ◌∙◌}
use Rattle.c_tree.specs.Layout.{bare}
use Rattle.cheri_c_sem.specs.Expressions.{expr_tree}
use Rattle.cheri_c_sem.specs.Types.{kind_or_int}
use Rattle.mean_run.specs.Sizes.{IsSmall}
use Rattle.mean_run.proofs.Computed.{compound_capability, compound_plain, compound_pointer}
use Rattle.mean_run.proofs.operations.compound.Goals as goal

pub returns-then-facts : goal.returns-then-facts
returns-then-facts c = λ fit vars small.
    let p = c.args.s.now.p.now in
    let own = c.facts-facts.ensures.own in
    compound_pointer p vars c.args.op (bare p.types c.args.computed) c.args.a c.args.b (expr_tree p vars c.args.b)
    c.facts-facts.result.target _ _ _ (sym own.pointer ∙ c.if-facts.true) own.target
    (c.facts.ensures.size (subst (IsSmall p) (sym own.target) (small (sym own.pointer ∙ c.if-facts.true))))
    c.takes_away.ensures (c.kind_at.ensures vars)

pub returns-in-Plain : goal.returns-in-Plain
returns-in-Plain c = λ fit vars small.
    let p = c.args.s.now.p.now in
    let own = c.facts-facts.ensures.own in
    compound_plain p vars c.args.op (bare p.types c.args.computed) c.args.a c.args.b (expr_tree p vars c.args.b)
    c.in-Plain.k _ (sym own.pointer ∙ c.if-facts.false) (c.in-Plain.ensures ∙ ap kind_or_int own.kind)
    (c.kind_at-in-Plain.ensures vars)

pub returns-in-Capability : goal.returns-in-Capability
returns-in-Capability c = λ fit vars small.
    let p = c.args.s.now.p.now in
    let own = c.facts-facts.ensures.own in
    compound_capability p vars c.args.op (bare p.types c.args.computed) c.args.a c.args.b (expr_tree p vars c.args.b)
    c.in-Capability.signed _ (sym own.pointer ∙ c.if-facts.false) (c.in-Capability.ensures ∙ ap kind_or_int own.kind)
    (c.derived.ensures
    ∙ rw (c.kind_at-in-Capability.ensures vars, c.is_plain.ensures vars, c.was_plain.ensures fit vars) refl)
