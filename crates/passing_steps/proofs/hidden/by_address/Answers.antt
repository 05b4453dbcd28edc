use Rattle.std.proofs.Common.{refl}
use Rattle.c_copy.proofs.Copies.{pushed, extends_same, extends_then, extends_push}
use Rattle.passing_steps.proofs.hidden.by_address.Goals as goal
use Rattle.passing_nodes.proofs.Calling.{address_passed, address_ordered}
use Rattle.passing_nodes.proofs.Ordering.{rest_then}
use Rattle.passing_nodes.proofs.Results.{on_both}

pub returns : goal.returns
returns c =
    let a = c.args in
    pushed c.push_expr-3.result _ _ _
    (on_both c.push_expr-3.result _ _ c.push_expr-3.ensures.exprs c.push_expr-3.ensures.rest)
    c.push_expr-3.ensures.number
    (λ x. record {
      extends =
          extends_push a.out.now.exprs.items c.address.new.self.exprs.items c.push_expr-3.new.self.exprs.items _
          (extends_then a.out.now.exprs.items c.push_expr-2.new.self.exprs.items c.address.new.self.exprs.items
          (extends_push a.out.now.exprs.items c.push_expr.new.self.exprs.items c.push_expr-2.new.self.exprs.items _
          (extends_push a.out.now.exprs.items a.out.now.exprs.items c.push_expr.new.self.exprs.items _
          (extends_same a.out.now.exprs.items) c.in_ok-place.ensures.exprs) c.in_ok-assigned.ensures.exprs)
          c.in_ok-address.ensures.extends) x.0;
      rest =
          rest_then a.out.now c.address.new.self c.push_expr-3.new.self
          (rest_then a.out.now c.push_expr-2.new.self c.address.new.self
          (rest_then a.out.now c.push_expr.new.self c.push_expr-2.new.self c.in_ok-place.ensures.rest
          c.in_ok-assigned.ensures.rest) c.in_ok-address.ensures.rest) x.1;
      is = λ ts e y fits hy.
          address_passed a.source.now ts e a.out.now.exprs.items c.push_expr.new.self.exprs.items
          c.push_expr-2.new.self.exprs.items c.address.new.self.exprs.items c.push_expr-3.new.self.exprs.items a.h
          a.value a.t c.number-of.result c.pointer-pointer.result
          a.pos c.in_ok-place.place c.in_ok-assigned.assigned c.in_ok-address.address _ y fits c.requires
          c.number-of.ensures c.pointer-pointer.ensures hy
          c.in_ok-place.ensures.exprs c.in_ok-place.ensures.number c.in_ok-assigned.ensures.exprs
          c.in_ok-assigned.ensures.number c.in_ok-address.ensures.extends
          (c.in_ok-address.ensures.is ts) x.0 refl;
      ordered =
          address_ordered a.source.now.types.now a.out.now c.push_expr.new.self c.push_expr-2.new.self
          c.address.new.self c.push_expr-3.new.self a.h a.value a.t c.number-of.result c.pointer-pointer.result a.pos
          c.in_ok-place.place c.in_ok-assigned.assigned c.in_ok-address.address _ c.number-of.ensures
          c.pointer-pointer.ensures c.in_ok-place.ensures.exprs c.in_ok-place.ensures.rest c.in_ok-place.ensures.number
          c.in_ok-assigned.ensures.exprs c.in_ok-assigned.ensures.rest c.in_ok-assigned.ensures.number
          c.in_ok-address.ensures.ordered x.0 x.1 refl;
    })
