-- The copies of an expression, a statement and a program, from those of their parts.
use Rattle.std.proofs.Common.{◌≡◌, ℕ, ◌+◌, ◌<◌, length, Some, None, sym, ap, ◌∙◌, subst, arith}
use Rattle.std.specs.Prelude.{slice_get, slice_index_or, sum_by, flat_map, map}
use Rattle.std.proofs.lemmas.List.Sums.{sum_by-append}
use Rattle.std.proofs.lemmas.Option.{slice_get_within}
use Rattle.c_tree.specs.Counts.{copied, value_copies, kind_copies, expr_copies, init_copies, stmt_copies, copies}
use Rattle.c_tree.specs.Views.{operands, values, parts, expression_uses, statement_uses, IsOrdered}
use Rattle.c_tree.specs.declared.typed.Expr.{Expr}
use Rattle.c_tree.specs.declared.typed.ExprKind.{ExprKind}
use Rattle.c_tree.specs.declared.typed.FunDef.{FunDef}
use Rattle.c_tree.specs.declared.typed.Stmt.{Stmt}
use Rattle.c_tree.specs.declared.typed.StmtKind.{StmtKind}
use Rattle.c_tree.specs.declared.typed.Typed.{Typed}
use Rattle.c_tree.proofs.Forest.{forest_reads}
use Rattle.c_tree.proofs.Uses.{each_of, each_append, each_flat, each_map, used_once, sum_upto, sum_same, sum_flat}
use Rattle.c_tree.proofs.Uses.{sum_both, sum_map}
use Rattle.tac_lower.specs.Copied.{copied_in, copies_from, copies_in, part_from, part_copies}

module _ (p : Typed) where
  pub copied_is : (k : ℕ) (e : Expr) → slice_get p.exprs k ≡ Some e → copied_in p k ≡ copied p.types e.of
  unfolding copied_in
  copied_is k e g = ap (value_copies p.types) g

  pub copied_past : (k : ℕ) → slice_get p.exprs k ≡ None → copied_in p k ≡ 0
  unfolding copied_in
  copied_past k g = ap (value_copies p.types) g

module _ (p : Typed) (o : IsOrdered p) where
  -- ---- one node

  expression_copies : (k : ℕ) (e : Expr) → slice_get p.exprs k ≡ Some e →
      expr_copies p.types e + sum_by (copies_in p) (operands e.kind) ≡ copies_in p k
  unfolding copies_in
  expression_copies k e g =
      let r = forest_reads (copies_from p.types) 0 p.exprs k e g in
      let go : ℕ → ℕ = λ j. slice_index_or r.seen j 0 in
      let same = sum_same go (copies_in p) (operands e.kind)
      (each_of (λ j. go j ≡ copies_in p j) (operands e.kind) (λ i j h. r.before j (o.operands_before k i j e g h))) in
      sym (r.is ∙ ap (λ z. expr_copies p.types e + z) same)

  pub copies_by : (k : ℕ) (e : Expr) (kd : ExprKind) → slice_get p.exprs k ≡ Some e → e.kind ≡ kd →
      kind_copies p.types kd e.of + sum_by (copies_in p) (operands kd) ≡ copies_in p k
  copies_by k e kd g is = subst (λ z. kind_copies p.types z e.of + sum_by (copies_in p) (operands z) ≡ copies_in p k) is
      (expression_copies k e g)

  statement_copies : (k : ℕ) (s : Stmt) → slice_get p.stmts k ≡ Some s →
      stmt_copies p.types p.exprs s + sum_by (copies_in p) (values s.kind) + sum_by (part_copies p) (parts s.kind)
      ≡ part_copies p k
  unfolding part_copies
  statement_copies k s g =
      let r = forest_reads (part_from p) 0 p.stmts k s g in
      let go : ℕ → ℕ = λ j. slice_index_or r.seen j 0 in
      let same = sum_same go (part_copies p) (parts s.kind)
      (each_of (λ j. go j ≡ part_copies p j) (parts s.kind) (λ i j h. r.before j (o.parts_before k i j s g h))) in
      sym (r.is ∙ ap (λ z. stmt_copies p.types p.exprs s + sum_by (copies_in p) (values s.kind) + z) same)

  pub part_by : (k : ℕ) (s : Stmt) (kd : StmtKind) → slice_get p.stmts k ≡ Some s → s.kind ≡ kd →
      init_copies p.types p.exprs kd + sum_by (copies_in p) (values kd) + sum_by (part_copies p) (parts kd)
      ≡ part_copies p k
  part_by k s kd g is = subst (λ z. init_copies p.types p.exprs z + sum_by (copies_in p) (values z)
      + sum_by (part_copies p) (parts z) ≡ part_copies p k) is (statement_copies k s g)

  -- ---- all of them: each is used once

  expressions_sum : sum_by (expr_copies p.types) p.exprs
      ≡ sum_by (copies_in p) (flat_map (λ (s : Stmt). values s.kind) p.stmts)
  expressions_sum =
      let n = length p.exprs in
      let f = copies_in p in
      let nodes = sum_upto (λ e. expr_copies p.types e + sum_by f (operands e.kind)) f p.exprs 0
      (λ k e g. let z : 0 + k ≡ k = omega arith in rw z (expression_copies k e g)) in
      let split = sum_both (expr_copies p.types) (λ (e : Expr). sum_by f (operands e.kind)) p.exprs in
      let flat = sum_flat f (λ (e : Expr). operands e.kind) p.exprs in
      let inner = each_flat (λ x. x < n) (λ (e : Expr). operands e.kind) p.exprs
      (λ k e g. each_of (λ x. x < n) (operands e.kind)
      (λ j a h. let b = o.operands_before k j a e g h in let c = slice_get_within p.exprs k e g in omega arith)) in
      let outer = each_flat (λ x. x < n) (λ (s : Stmt). values s.kind) p.stmts
      (λ k s g. each_of (λ x. x < n) (values s.kind) (λ j a h. o.values_there k j a s g h)) in
      let uses = used_once f n (expression_uses p) (each_append (λ x. x < n) _ _ inner outer) o.expressions_once in
      let sum = sum_by-append f (flat_map (λ (e : Expr). operands e.kind) p.exprs)
      (flat_map (λ (s : Stmt). values s.kind) p.stmts) in
      omega (arith, nodes, split, flat, uses, sum)

  abbrev own : Stmt → ℕ
  own s = stmt_copies p.types p.exprs s + sum_by (copies_in p) (values s.kind)

  statements_sum : sum_by (stmt_copies p.types p.exprs) p.stmts
      + sum_by (copies_in p) (flat_map (λ (s : Stmt). values s.kind) p.stmts)
      ≡ sum_by (λ (d : FunDef). part_copies p d.body) p.funs
  statements_sum =
      let n = length p.stmts in
      let f = part_copies p in
      let nodes = sum_upto (λ s. own s + sum_by f (parts s.kind)) f p.stmts 0
      (λ k s g. let z : 0 + k ≡ k = omega arith in rw z (statement_copies k s g)) in
      let split = sum_both own (λ (s : Stmt). sum_by f (parts s.kind)) p.stmts in
      let split_own = sum_both (stmt_copies p.types p.exprs) (λ (s : Stmt). sum_by (copies_in p) (values s.kind))
      p.stmts in
      let flat = sum_flat f (λ (s : Stmt). parts s.kind) p.stmts in
      let flat_values = sum_flat (copies_in p) (λ (s : Stmt). values s.kind) p.stmts in
      let inner = each_flat (λ x. x < n) (λ (s : Stmt). parts s.kind) p.stmts
      (λ k s g. each_of (λ x. x < n) (parts s.kind)
      (λ j a h. let b = o.parts_before k j a s g h in let c = slice_get_within p.stmts k s g in omega arith)) in
      let outer = each_map (λ x. x < n) (λ (d : FunDef). d.body) p.funs (λ k d g. (o.funs k d g).1) in
      let uses = used_once f n (statement_uses p) (each_append (λ x. x < n) _ _ inner outer) o.statements_once in
      let sum = sum_by-append f (flat_map (λ (s : Stmt). parts s.kind) p.stmts) (map (λ (d : FunDef). d.body) p.funs) in
      let bodies = sum_map f (λ (d : FunDef). d.body) p.funs in
      omega (arith, nodes, split, split_own, flat, flat_values, uses, sum, bodies)

  pub copies_of_functions : sum_by (λ (d : FunDef). part_copies p d.body) p.funs ≡ copies p
  unfolding copies
  copies_of_functions = omega (arith, expressions_sum, statements_sum)
