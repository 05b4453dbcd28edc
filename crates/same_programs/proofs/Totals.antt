-- Sums over the nodes of a program: each node stands once in the tree of a function, so they are sums over the trees,
-- the same under all numbers of the nodes.
use Rattle.std.proofs.Common.{◌≡◌, ℕ, ◌+◌, ◌<◌, List, [], ◌∷◌, ◌++◌, length, Some, None, refl, sym, ap, ◌∙◌, arith}
use Rattle.std.specs.Prelude.{slice_get, slice_index_or, sum_by, flat_map, map}
use Rattle.std.proofs.lemmas.List.{map_push}
use Rattle.std.proofs.lemmas.List.Sums.{sum_by-cons, sum_by-append}
use Rattle.std.proofs.lemmas.Option.{slice_get_within}
use Rattle.ck_base.specs.declared.positions.Pos.{Pos}
use Rattle.c_tree.specs.declared.typed.Expr.{Expr}
use Rattle.c_tree.specs.declared.typed.ExprKind.{ExprKind}
use Rattle.c_tree.specs.declared.typed.ExprKind.TheVariants as exprs
use Rattle.c_tree.specs.declared.typed.Stmt.{Stmt}
use Rattle.c_tree.specs.declared.typed.StmtKind.{StmtKind}
use Rattle.c_tree.specs.declared.typed.StmtKind.TheVariants as stmts
use Rattle.c_tree.specs.declared.typed.FunDef.{FunDef}
use Rattle.c_tree.specs.declared.typed.Typed.{Typed}
use Rattle.c_tree.specs.Types.{Ty}
use Rattle.c_tree.specs.Terms.{Term, terms, Action}
use Rattle.c_tree.specs.Terms.{actions, Routine, Program}
use Rattle.c_tree.specs.Views.{types_of, type_at, kind_term, expr_from, no_term, terms_of, term_at, kind_action}
use Rattle.c_tree.specs.Views.{stmt_from, no_action, actions_of, action_at, operands, values, parts, expression_uses}
use Rattle.c_tree.specs.Views.{statement_uses, routine_of, Shows, IsOrdered}
use Rattle.same_programs.specs.Totals.{term_total, terms_total, action_total, actions_total}
use Rattle.c_tree.proofs.Forest.{forest_reads}
use Rattle.c_tree.proofs.Uses.{each_of, each_append, each_flat, each_map, used_once, sum_upto, sum_same, sum_flat}
use Rattle.c_tree.proofs.Uses.{sum_both, sum_map}

module _ (w : Term → ℕ) (v : Action → ℕ) where
  -- ---- one node

  terms_map : (go : ℕ → Term) (xs : List ℕ) → terms_total w (terms (map go xs)) ≡ sum_by (λ j. term_total w (go j)) xs
  terms_map go [] = refl
  terms_map go (x ∷ xs) = omega (arith, sum_by-cons (λ j. term_total w (go j)) x xs, terms_map go xs)

  actions_map : (go : ℕ → Action) (xs : List ℕ) →
      actions_total w v (actions (map go xs)) ≡ sum_by (λ j. action_total w v (go j)) xs
  actions_map go [] = refl
  actions_map go (x ∷ xs) = omega (arith, sum_by-cons (λ j. action_total w v (go j)) x xs, actions_map go xs)

  kind_total : (ts : List Ty) (k : ExprKind) (t : Ty) (p : Pos) (go : ℕ → Term) →
      term_total w (kind_term ts k t p go) ≡ w (kind_term ts k t p go) + sum_by (λ j. term_total w (go j)) (operands k)
  kind_total ts (exprs.Constant n) t p go = omega arith
  kind_total ts (exprs.Literal k) t p go = omega arith
  kind_total ts (exprs.Var k) t p go = omega arith
  kind_total ts (exprs.Global k) t p go = omega arith
  kind_total ts (exprs.Fun k) t p go = omega arith
  kind_total ts (exprs.Load a) t p go = omega arith
  kind_total ts (exprs.Decay a) t p go = omega arith
  kind_total ts (exprs.Deref a) t p go = omega arith
  kind_total ts (exprs.Member a k) t p go = omega arith
  kind_total ts (exprs.Address a) t p go = omega arith
  kind_total ts (exprs.Convert a) t p go = omega arith
  kind_total ts (exprs.Unary o a) t p go = omega arith
  kind_total ts (exprs.Int o a b) t p go = omega arith
  kind_total ts (exprs.Capability o a b r) t p go = omega arith
  kind_total ts (exprs.Plus a b m) t p go = omega arith
  kind_total ts (exprs.Difference a b) t p go = omega arith
  kind_total ts (exprs.Compare o a b) t p go = omega arith
  kind_total ts (exprs.And a b) t p go = omega arith
  kind_total ts (exprs.Or a b) t p go = omega arith
  kind_total ts (exprs.Conditional a b c) t p go = omega arith
  kind_total ts (exprs.Comma a b) t p go = omega arith
  kind_total ts (exprs.Assign a b) t p go = omega arith
  kind_total ts (exprs.Compound o a b of) t p go = omega arith
  kind_total ts (exprs.Step a adds in_front) t p go = omega arith
  kind_total ts (exprs.Call f xs) t p go = omega (arith, sum_by-cons (λ j. term_total w (go j)) f xs, terms_map go xs)
  kind_total ts (exprs.Library k xs) t p go = omega (arith, terms_map go xs)

  abbrev value_sum : List Term → List ℕ → ℕ
  value_sum es xs = sum_by (λ j. term_total w (term_at es j)) xs

  abbrev part_sum : (ℕ → Action) → List ℕ → ℕ
  part_sum go xs = sum_by (λ j. action_total w v (go j)) xs

  firsts : (go : ℕ → Action) (first : List ℕ) (x : ℕ) →
      actions_total w v (actions (map go first ++ go x ∷ [])) ≡ part_sum go (first ++ x ∷ [])
  firsts go first x = ap (λ xs. actions_total w v (actions xs)) (sym (map_push go first x))
      ∙ actions_map go (first ++ x ∷ [])

  stmt_total : (es : List Term) (k : StmtKind) (p : Pos) (go : ℕ → Action) →
      action_total w v (kind_action es k p go)
      ≡ v (kind_action es k p go) + value_sum es (values k) + part_sum go (parts k)
  stmt_total es (stmts.Expr a) p go = omega arith
  stmt_total es (stmts.Init var offset a) p go = omega arith
  stmt_total es (stmts.Block vars body) p go = omega (arith, actions_map go body)
  stmt_total es (stmts.If a x None) p go = omega arith
  stmt_total es (stmts.If a x (Some y)) p go = omega arith
  stmt_total es (stmts.While a x) p go = omega arith
  stmt_total es (stmts.Do x a) p go = omega arith
  stmt_total es (stmts.For vars first None None x) p go = omega (arith, firsts go first x)
  stmt_total es (stmts.For vars first None (Some b) x) p go = omega (arith, firsts go first x)
  stmt_total es (stmts.For vars first (Some a) None x) p go = omega (arith, firsts go first x)
  stmt_total es (stmts.For vars first (Some a) (Some b) x) p go = omega (arith, firsts go first x)
  stmt_total es (stmts.Switch a vars labels body) p go = omega (arith, actions_map go body)
  stmt_total es stmts.Break p go = omega arith
  stmt_total es stmts.Continue p go = omega arith
  stmt_total es (stmts.Return None) p go = omega arith
  stmt_total es (stmts.Return (Some a)) p go = omega arith
  stmt_total es stmts.Empty p go = omega arith

  -- ---- all nodes of a program

  module _ (p : Typed) (o : IsOrdered p) where
    abbrev W : ℕ → ℕ
    W k = term_total w (term_at (terms_of p) k)

    abbrev V : ℕ → ℕ
    V k = action_total w v (action_at (actions_of p) k)

    module _ (f : Expr → ℕ) (h : (k : ℕ) (e : Expr) → slice_get p.exprs k ≡ Some e → f e ≡ w (term_at (terms_of p) k))
      where
        expr_is : (k : ℕ) (e : Expr) → slice_get p.exprs k ≡ Some e → f e + sum_by W (operands e.kind) ≡ W k
        expr_is k e g =
            let ts = types_of p.types in
            let r = forest_reads (expr_from ts) no_term p.exprs k e g in
            let go : ℕ → Term = λ j. slice_index_or r.seen j no_term in
            let total = kind_total ts e.kind (type_at ts e.of) e.pos go in
            let is : W k ≡ term_total w (expr_from ts e go) = ap (term_total w) r.is in
            let own : f e ≡ w (expr_from ts e go) = h k e g ∙ ap w r.is in
            let same = sum_same (λ j. term_total w (go j)) W (operands e.kind)
            (each_of (λ j. term_total w (go j) ≡ W j) (operands e.kind)
            (λ i j b. ap (term_total w) (r.before j (o.operands_before k i j e g b)))) in
            omega (arith, total, is, own, same)

        expressions_sum : sum_by f p.exprs ≡ sum_by W (flat_map (λ (s : Stmt). values s.kind) p.stmts)
        expressions_sum =
            let n = length p.exprs in
            let nodes = sum_upto (λ e. f e + sum_by W (operands e.kind)) W p.exprs 0
            (λ k e g. let z : 0 + k ≡ k = omega arith in rw z (expr_is k e g)) in
            let split = sum_both f (λ (e : Expr). sum_by W (operands e.kind)) p.exprs in
            let flat = sum_flat W (λ (e : Expr). operands e.kind) p.exprs in
            let inner = each_flat (λ x. x < n) (λ (e : Expr). operands e.kind) p.exprs
            (λ k e g. each_of (λ x. x < n) (operands e.kind)
            (λ j a b. omega (arith, o.operands_before k j a e g b, slice_get_within p.exprs k e g))) in
            let outer = each_flat (λ x. x < n) (λ (s : Stmt). values s.kind) p.stmts
            (λ k s g. each_of (λ x. x < n) (values s.kind) (λ j a b. o.values_there k j a s g b)) in
            let uses = used_once W n (expression_uses p) (each_append (λ x. x < n) _ _ inner outer)
            o.expressions_once in
            let sum = sum_by-append W (flat_map (λ (e : Expr). operands e.kind) p.exprs)
            (flat_map (λ (s : Stmt). values s.kind) p.stmts) in
            omega (arith, nodes, split, flat, uses, sum)

        module _ (g : Stmt → ℕ) (i : (k : ℕ) (s : Stmt) → slice_get p.stmts k ≡ Some s →
            g s ≡ v (action_at (actions_of p) k)) where
          abbrev own : Stmt → ℕ
          own s = g s + sum_by W (values s.kind)

          stmt_is : (k : ℕ) (s : Stmt) → slice_get p.stmts k ≡ Some s → own s + sum_by V (parts s.kind) ≡ V k
          stmt_is k s e =
              let es = terms_of p in
              let r = forest_reads (stmt_from es) no_action p.stmts k s e in
              let go : ℕ → Action = λ j. slice_index_or r.seen j no_action in
              let total = stmt_total es s.kind s.pos go in
              let is : V k ≡ action_total w v (stmt_from es s go) = ap (action_total w v) r.is in
              let mine : g s ≡ v (stmt_from es s go) = i k s e ∙ ap v r.is in
              let same = sum_same (λ j. action_total w v (go j)) V (parts s.kind)
              (each_of (λ j. action_total w v (go j) ≡ V j) (parts s.kind)
              (λ m j b. ap (action_total w v) (r.before j (o.parts_before k m j s e b)))) in
              omega (arith, total, is, mine, same)

          statements_sum : sum_by g p.stmts + sum_by W (flat_map (λ (s : Stmt). values s.kind) p.stmts)
              ≡ sum_by (λ (d : FunDef). V d.body) p.funs
          statements_sum =
              let n = length p.stmts in
              let nodes = sum_upto (λ s. own s + sum_by V (parts s.kind)) V p.stmts 0
              (λ k s e. let z : 0 + k ≡ k = omega arith in rw z (stmt_is k s e)) in
              let split = sum_both own (λ (s : Stmt). sum_by V (parts s.kind)) p.stmts in
              let split_own = sum_both g (λ (s : Stmt). sum_by W (values s.kind)) p.stmts in
              let flat = sum_flat V (λ (s : Stmt). parts s.kind) p.stmts in
              let flat_values = sum_flat W (λ (s : Stmt). values s.kind) p.stmts in
              let inner = each_flat (λ x. x < n) (λ (s : Stmt). parts s.kind) p.stmts
              (λ k s e. each_of (λ x. x < n) (parts s.kind)
              (λ j a b. omega (arith, o.parts_before k j a s e b, slice_get_within p.stmts k s e))) in
              let outer = each_map (λ x. x < n) (λ (d : FunDef). d.body) p.funs (λ k d e. (o.funs k d e).1) in
              let uses = used_once V n (statement_uses p) (each_append (λ x. x < n) _ _ inner outer)
              o.statements_once in
              let sum = sum_by-append V (flat_map (λ (s : Stmt). parts s.kind) p.stmts)
              (map (λ (d : FunDef). d.body) p.funs) in
              let bodies = sum_map V (λ (d : FunDef). d.body) p.funs in
              omega (arith, nodes, split, split_own, flat, flat_values, uses, sum, bodies)

          routines : (fs : List FunDef) →
              sum_by (λ (r : Routine). action_total w v r.body) (map (routine_of (types_of p.types) (actions_of p)) fs)
              ≡ sum_by (λ (d : FunDef). V d.body) fs
          routines [] = refl
          routines (d ∷ fs) =
              omega (
                arith,
                sum_by-cons (λ (r : Routine). action_total w v r.body)
                    (routine_of (types_of p.types) (actions_of p) d)
                    (map (routine_of (types_of p.types) (actions_of p)) fs),
                sum_by-cons (λ (e : FunDef). V e.body) d fs,
                routines fs,
              )

          pub total_is : (q : Program) → Shows p q →
              sum_by f p.exprs + sum_by g p.stmts ≡ sum_by (λ (r : Routine). action_total w v r.body) q.routines
          total_is q s =
              let a = ap (sum_by (λ (r : Routine). action_total w v r.body)) s.routines in
              omega (arith, expressions_sum, statements_sum, routines p.funs, a)
