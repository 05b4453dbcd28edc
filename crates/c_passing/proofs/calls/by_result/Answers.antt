use Rattle.std.proofs.Common.{refl, ap, ◌∙◌, ◌++◌, ◌∷◌, []}
use Rattle.c_tree.specs.declared.typed.ExprKind.TheVariants as exprs
use Rattle.c_copy.proofs.Copies.{pushed, extends_same, extends_push}
use Rattle.c_passing.proofs.Calling.{result_made, result_ordered}
use Rattle.c_passing.proofs.calls.by_result.Goals as goal
use Rattle.passing_steps.proofs.Ordering.{rest_then}
use Rattle.passing_steps.proofs.Results.{on_both}

pub returns : goal.returns
returns c =
    let a = c.args in
    let call = c.in_ok-call.ensures.exprs
    ∙ ap (λ ks. a.out.now.exprs.items ++ record { kind = exprs.Call a.called ks; of = 0; pos = a.pos } ∷ [])
    c.from_vec.ensures in
    pushed c.push_expr-3.result _ _ _
    (on_both c.push_expr-3.result _ _ c.push_expr-3.ensures.exprs c.push_expr-3.ensures.rest)
    c.push_expr-3.ensures.number
    (λ x. record {
      extends =
          extends_push a.out.now.exprs.items c.push_expr-2.new.self.exprs.items c.push_expr-3.new.self.exprs.items _
          (extends_push a.out.now.exprs.items c.push_expr.new.self.exprs.items c.push_expr-2.new.self.exprs.items _
          (extends_push a.out.now.exprs.items a.out.now.exprs.items c.push_expr.new.self.exprs.items _
          (extends_same a.out.now.exprs.items) call) c.in_ok-place.ensures.exprs) x.0;
      rest =
          rest_then a.out.now c.push_expr-2.new.self c.push_expr-3.new.self
          (rest_then a.out.now c.push_expr.new.self c.push_expr-2.new.self c.in_ok-call.ensures.rest
          c.in_ok-place.ensures.rest) x.1;
      is = λ ts e f ys fits hf hl.
          result_made a.source.now ts e a.out.now.exprs.items c.push_expr.new.self.exprs.items
          c.push_expr-2.new.self.exprs.items c.push_expr-3.new.self.exprs.items a.h a.called a.t c.number-of.result
          a.list.items a.pos c.in_ok-call.call c.in_ok-place.place _ f ys fits
          c.requires c.number-of.ensures hf hl
          call c.in_ok-call.ensures.number c.in_ok-place.ensures.exprs c.in_ok-place.ensures.number x.0 refl;
      ordered =
          result_ordered a.source.now.types.now a.out.now c.push_expr.new.self c.push_expr-2.new.self
          c.push_expr-3.new.self a.h a.called a.t c.number-of.result a.list.items a.pos c.in_ok-call.call
          c.in_ok-place.place _ c.number-of.ensures call c.in_ok-call.ensures.rest c.in_ok-call.ensures.number
          c.in_ok-place.ensures.exprs c.in_ok-place.ensures.rest c.in_ok-place.ensures.number x.0 x.1 refl;
    })
