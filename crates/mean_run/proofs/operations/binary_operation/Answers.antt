use Rattle.std.proofs.Common.{ap, subst, ◌∙◌}
use Rattle.c_tree.specs.Layout.{bare}
use Rattle.cheri_c_sem.specs.Expressions.{expr_tree}
use Rattle.cheri_c_sem.specs.Kinds.{int_kind}
use Rattle.cheri_c_sem.specs.Types.{kind_or_int}
use Rattle.mean_run.specs.Sizes.{IsSizedBy}
use Rattle.mean_run.proofs.Computed.{capability_is, difference_is, int_is, plus_is}
use Rattle.mean_run.proofs.operations.binary_operation.Goals as goal

pub returns-in-Int : goal.returns-in-Int
returns-in-Int c = λ fit vars sized.
    let p = c.args.s.now.p.now in
    let e = c.args.e.now in
    let own = c.facts.ensures.own in (
      expr_tree p vars c.in-Int.field-1,
      expr_tree p vars c.in-Int.b,
      int_is p vars e.of e.pos e.kind c.in-Int.field-1 c.in-Int.b c.in-Int.op _ _ c.in-Int.is
          (c.int_kind.ensures ∙ ap int_kind (c.kind_or_int-own.ensures ∙ ap kind_or_int own.kind))
          (c.kind_at.ensures vars),
    )

pub returns-in-Capability : goal.returns-in-Capability
returns-in-Capability c = λ fit vars sized.
    let p = c.args.s.now.p.now in
    let e = c.args.e.now in
    let i = c.in-Capability in (
      expr_tree p vars i.a,
      expr_tree p vars i.b,
      capability_is p vars e.of e.pos e.kind i.a i.b i.op i.right _ _ _ _ i.is
          (c.is_signed_capability.ensures (bare p.types e.of) c.facts-own.ensures.own)
          (c.kind_at-in-Capability.ensures vars) c.other_operand.ensures (c.from_plain.ensures fit vars),
    )

pub returns-in-Plus : goal.returns-in-Plus
returns-in-Plus c = λ fit vars sized.
    let p = c.args.s.now.p.now in
    let e = c.args.e.now in
    let i = c.in-Plus in (
      expr_tree p vars i.a,
      expr_tree p vars i.b,
      plus_is p vars e.of e.pos e.kind i.a i.b i.minus _ i.is
          (c.sum.ensures vars (subst (IsSizedBy p e.of) i.is sized)),
    )

pub returns-in-Difference : goal.returns-in-Difference
returns-in-Difference c = λ fit vars sized.
    let p = c.args.s.now.p.now in
    let e = c.args.e.now in
    let i = c.in-Difference in (
      expr_tree p vars i.a,
      expr_tree p vars i.field-1,
      difference_is p vars e.of e.pos e.kind i.a i.field-1 _ i.is
          (c.element_size.ensures vars (subst (IsSizedBy p e.of) i.is sized)),
    )
