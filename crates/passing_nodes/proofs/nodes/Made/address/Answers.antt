use Rattle.std.proofs.Common.{[], ◌∷◌, refl, ap}
use Rattle.c_tree.specs.declared.typed.Expr.{Expr}
use Rattle.c_tree.specs.declared.typed.ExprKind.TheVariants as exprs
use Rattle.c_tree.specs.Terms as tree
use Rattle.c_tree.specs.Terms.{leaf}
use Rattle.c_tree.specs.Views.{type_at}
use Rattle.c_copy.proofs.Copies.{pushed, extends_same, extends_push}
use Rattle.passing_nodes.specs.declared.nodes.Made.{Made}
use Rattle.passing_nodes.proofs.nodes.Made.address.Goals as goal
use Rattle.passing_nodes.proofs.Calling.{var_made, step_made}
use Rattle.passing_nodes.proofs.Ordering.{rest_then, in_push, in_then}
use Rattle.passing_nodes.proofs.Results.{on_both}

pub returns : goal.returns
returns c =
    let a = c.args in
    let place = c.in_ok-place.place in
    let d : Expr = record { kind = exprs.Address place; of = a.pointer; pos = a.pos } in
    pushed c.push_expr-2.result _ _ _ (on_both c.push_expr-2.result _ _ c.push_expr-2.ensures.exprs
    c.push_expr-2.ensures.rest) c.push_expr-2.ensures.number
    (λ x. record {
      extends =
          extends_push a.self.now.exprs.items c.push_expr.new.self.exprs.items c.push_expr-2.new.self.exprs.items _
          (extends_push a.self.now.exprs.items a.self.now.exprs.items c.push_expr.new.self.exprs.items _
          (extends_same a.self.now.exprs.items) c.in_ok-place.ensures.exprs) x.0;
      rest = rest_then a.self.now c.push_expr.new.self c.push_expr-2.new.self c.in_ok-place.ensures.rest x.1;
      ordered = λ n p q.
          in_then n a.self.now c.push_expr.new.self c.push_expr-2.new.self [] [] (place ∷ []) [] (_ ∷ []) []
          (in_push n a.self.now c.push_expr.new.self (record { kind = exprs.Var a.k; of = a.of; pos = a.pos }) place []
          c.in_ok-place.ensures.exprs (ap (λ (m : Made). m.stmts.items) c.in_ok-place.ensures.rest)
          c.in_ok-place.ensures.number q refl)
          (in_push n c.push_expr.new.self c.push_expr-2.new.self
          (record { kind = exprs.Address place; of = a.pointer; pos = a.pos }) _ (place ∷ []) x.0
          (ap (λ (m : Made). m.stmts.items) x.1) refl p refl);
      is = λ ts.
          step_made ts c.push_expr.new.self.exprs.items c.push_expr-2.new.self.exprs.items d place _
          (leaf (tree.Var a.k) (type_at ts a.of) a.pos) x.0 refl refl
          (var_made ts a.self.now.exprs.items c.push_expr.new.self.exprs.items a.k a.of a.pos place
          c.in_ok-place.ensures.exprs c.in_ok-place.ensures.number);
    })
