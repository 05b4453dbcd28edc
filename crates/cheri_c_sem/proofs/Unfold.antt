-- A node's tree is made of the trees of its operands, and a statement's of those of its parts.
use Rattle.std.proofs.Common.{◌≡◌, ℕ, zero, suc, ◌<◌, List, [], ◌∷◌, Option, Some, None, refl, ap, ◌∙◌, arith}
use Rattle.std.specs.Prelude.{slice_get}
use Rattle.std.specs.List.{AllByRecursion}
use Rattle.ck_base.specs.declared.positions.Pos.{Pos}
use Rattle.c_tree.specs.declared.typed.Expr.{Expr}
use Rattle.c_tree.specs.declared.typed.ExprKind.{ExprKind}
use Rattle.c_tree.specs.declared.typed.ExprKind.TheVariants as exprs
use Rattle.c_tree.specs.declared.typed.Stmt.{Stmt}
use Rattle.c_tree.specs.declared.typed.StmtKind.{StmtKind}
use Rattle.c_tree.specs.declared.typed.StmtKind.TheVariants as stmts
use Rattle.c_tree.specs.declared.typed.Typed.{Typed}
use Rattle.c_tree.specs.declared.typed.VarDef.{VarDef}
use Rattle.cheri_c_sem.specs.Tree.{Ex, St}
use Rattle.cheri_c_sem.specs.Expressions.{arguments, kind_tree, node_tree, levels, expr_tree}
use Rattle.cheri_c_sem.specs.Programs.{statements, statement_or_empty, stmt_kind_tree, stmt_node_tree, stmt_levels}
use Rattle.cheri_c_sem.specs.Programs.{stmt_tree}
use Rattle.cheri_c_sem.specs.Order.{IsAfterOperands, IsBefore, IsAfterParts, Ordered}

arguments_same : (t u : ℕ → Ex) (k : ℕ) (ks : List ℕ) → AllByRecursion (λ c. c < k) ks → ((c : ℕ) → c < k → t c ≡ u c) →
    arguments t ks ≡ arguments u ks
arguments_same t u k [] all h = refl
arguments_same t u k (c ∷ ks) all h = let e = h c all.0 in let f = arguments_same t u k ks all.1 h in cc

module _ (p : Typed) (vars : List VarDef) where
  -- the tree of a kind, with its operands' trees apart
  one : (k : ℕ) (f : Ex → Ex) (t u : ℕ → Ex) (a : ℕ) → a < k → ((c : ℕ) → c < k → t c ≡ u c) → f (t a) ≡ f (u a)
  one k f t u a la h = ap f (h a la)

  kind_same : (t u : ℕ → Ex) (k of : ℕ) (pos : Pos) (kind : ExprKind) → IsAfterOperands k kind →
      ((c : ℕ) → c < k → t c ≡ u c) → kind_tree p vars t of pos kind ≡ kind_tree p vars u of pos kind
  kind_same t u k of pos (exprs.Constant n) b h = refl
  kind_same t u k of pos (exprs.Literal n) b h = refl
  kind_same t u k of pos (exprs.Var n) b h = refl
  kind_same t u k of pos (exprs.Global n) b h = refl
  kind_same t u k of pos (exprs.Fun n) b h = refl
  kind_same t u k of pos (exprs.Load a) b h = one k (λ x. kind_tree p vars (λ n. x) of pos (exprs.Load a)) t u a b h
  kind_same t u k of pos (exprs.Decay a) b h = one k (λ x. kind_tree p vars (λ n. x) of pos (exprs.Decay a)) t u a b h
  kind_same t u k of pos (exprs.Deref a) b h = one k (λ x. kind_tree p vars (λ n. x) of pos (exprs.Deref a)) t u a b h
  kind_same t u k of pos (exprs.Member a m) b h =
      one k (λ x. kind_tree p vars (λ n. x) of pos (exprs.Member a m)) t u a b h
  kind_same t u k of pos (exprs.Address a) b h =
      one k (λ x. kind_tree p vars (λ n. x) of pos (exprs.Address a)) t u a b h
  kind_same t u k of pos (exprs.Convert a) b h =
      one k (λ x. kind_tree p vars (λ n. x) of pos (exprs.Convert a)) t u a b h
  kind_same t u k of pos (exprs.Unary op a) b h =
      one k (λ x. kind_tree p vars (λ n. x) of pos (exprs.Unary op a)) t u a b h
  kind_same t u k of pos (exprs.Step a adds front) b h =
      one k (λ x. kind_tree p vars (λ n. x) of pos (exprs.Step a adds front)) t u a b h
  kind_same t u k of pos (exprs.Int op x y) b h = let e = h x b.0 in let g = h y b.1 in rw e (rw g refl)
  kind_same t u k of pos (exprs.Capability op x y right) b h = let e = h x b.0 in let g = h y b.1 in rw e (rw g refl)
  kind_same t u k of pos (exprs.Plus x y minus) b h = let e = h x b.0 in let g = h y b.1 in rw e (rw g refl)
  kind_same t u k of pos (exprs.Difference x y) b h = let e = h x b.0 in let g = h y b.1 in rw e (rw g refl)
  kind_same t u k of pos (exprs.Compare op x y) b h = let e = h x b.0 in let g = h y b.1 in rw e (rw g refl)
  kind_same t u k of pos (exprs.And x y) b h = let e = h x b.0 in let g = h y b.1 in rw e (rw g refl)
  kind_same t u k of pos (exprs.Or x y) b h = let e = h x b.0 in let g = h y b.1 in rw e (rw g refl)
  kind_same t u k of pos (exprs.Conditional c x y) b h =
      let e = h c b.0 in let g = h x b.1 in let i = h y b.2 in rw e (rw g (rw i refl))
  kind_same t u k of pos (exprs.Comma x y) b h = let e = h x b.0 in let g = h y b.1 in rw e (rw g refl)
  kind_same t u k of pos (exprs.Assign x y) b h = let e = h x b.0 in let g = h y b.1 in rw e (rw g refl)
  kind_same t u k of pos (exprs.Compound op x y computed) b h = let e = h x b.0 in let g = h y b.1 in rw e (rw g refl)
  kind_same t u k of pos (exprs.Call f args) b h =
      let e = h f b.0 in let g = arguments_same t u k args b.1 h in rw e (rw g refl)
  kind_same t u k of pos (exprs.Library n args) b h = let g = arguments_same t u k args b h in rw g refl

  node_same : (t u : ℕ → Ex) (k : ℕ) (o : Option Expr) → ((e : Expr) → o ≡ Some e → IsAfterOperands k e.kind) →
      ((c : ℕ) → c < k → t c ≡ u c) → node_tree p vars t o ≡ node_tree p vars u o
  node_same t u k None b h = refl
  node_same t u k (Some e) b h = kind_same t u k e.of e.pos e.kind (b e refl) h

  levels_same : Ordered p → (n m k : ℕ) → k < n → k < m → levels p vars n k ≡ levels p vars m k
  levels_same o zero m k ln lm = absurd (omega arith)
  levels_same o (suc n) zero k ln lm = absurd (omega arith)
  levels_same o (suc n) (suc m) k ln lm =
      node_same _ _ k (slice_get p.exprs k) (o.exprs k) (λ c lc. levels_same o n m c (omega arith) (omega arith))

  -- expression k
  pub expression_node : Ordered p → (k : ℕ) (e : Expr) → slice_get p.exprs k ≡ Some e →
      expr_tree p vars k ≡ kind_tree p vars (expr_tree p vars) e.of e.pos e.kind
  unfolding expr_tree
  expression_node o k e h =
      ap (node_tree p vars (levels p vars k)) h
      ∙ kind_same _ _ k e.of e.pos e.kind (o.exprs k e h) (λ c lc. levels_same o k (suc c) c lc (omega arith))

statements_same : (t u : ℕ → St) (k : ℕ) (ks : List ℕ) → AllByRecursion (λ c. c < k) ks →
    ((c : ℕ) → c < k → t c ≡ u c) → statements t ks ≡ statements u ks
statements_same t u k [] all h = refl
statements_same t u k (c ∷ ks) all h = let e = h c all.0 in let f = statements_same t u k ks all.1 h in cc

or_empty_same : (t u : ℕ → St) (k : ℕ) (o : Option ℕ) → IsBefore k o → ((c : ℕ) → c < k → t c ≡ u c) →
    statement_or_empty t o ≡ statement_or_empty u o
or_empty_same t u k None b h = refl
or_empty_same t u k (Some c) b h = h c b

module _ (p : Typed) (vars : List VarDef) where
  stmt_kind_same : (e : ℕ → Ex) (t u : ℕ → St) (k : ℕ) (pos : Pos) (s : StmtKind) → IsAfterParts k s →
      ((c : ℕ) → c < k → t c ≡ u c) → stmt_kind_tree p vars e t pos s ≡ stmt_kind_tree p vars e u pos s
  stmt_kind_same e t u k pos (stmts.Expr a) b h = refl
  stmt_kind_same e t u k pos (stmts.Init x offset a) b h = refl
  stmt_kind_same e t u k pos (stmts.Block xs ks) b h = let g = statements_same t u k ks b h in rw g refl
  stmt_kind_same e t u k pos (stmts.If c x y) b h =
      let f = h x b.0 in let g = or_empty_same t u k y b.1 h in rw f (rw g refl)
  stmt_kind_same e t u k pos (stmts.While c x) b h = let f = h x b in rw f refl
  stmt_kind_same e t u k pos (stmts.Do x c) b h = let f = h x b in rw f refl
  stmt_kind_same e t u k pos (stmts.For xs first test step x) b h =
      let f = h x b.1 in let g = statements_same t u k first b.0 h in rw f (rw g refl)
  stmt_kind_same e t u k pos (stmts.Switch on xs labels ks) b h = let g = statements_same t u k ks b h in rw g refl
  stmt_kind_same e t u k pos stmts.Break b h = refl
  stmt_kind_same e t u k pos stmts.Continue b h = refl
  stmt_kind_same e t u k pos (stmts.Return a) b h = refl
  stmt_kind_same e t u k pos stmts.Empty b h = refl

  stmt_node_same : (e : ℕ → Ex) (t u : ℕ → St) (k : ℕ) (o : Option Stmt) →
      ((s : Stmt) → o ≡ Some s → IsAfterParts k s.kind) → ((c : ℕ) → c < k → t c ≡ u c) →
      stmt_node_tree p vars e t o ≡ stmt_node_tree p vars e u o
  stmt_node_same e t u k None b h = refl
  stmt_node_same e t u k (Some s) b h = stmt_kind_same e t u k s.pos s.kind (b s refl) h

  stmt_levels_same : Ordered p → (n m k : ℕ) → k < n → k < m → stmt_levels p vars n k ≡ stmt_levels p vars m k
  stmt_levels_same o zero m k ln lm = absurd (omega arith)
  stmt_levels_same o (suc n) zero k ln lm = absurd (omega arith)
  stmt_levels_same o (suc n) (suc m) k ln lm =
      stmt_node_same (expr_tree p vars) _ _ k (slice_get p.stmts k) (o.stmts k)
      (λ c lc. stmt_levels_same o n m c (omega arith) (omega arith))

  -- statement k
  pub statement_node : Ordered p → (k : ℕ) (s : Stmt) → slice_get p.stmts k ≡ Some s →
      stmt_tree p vars k ≡ stmt_kind_tree p vars (expr_tree p vars) (stmt_tree p vars) s.pos s.kind
  unfolding stmt_tree
  statement_node o k s h = ap (stmt_node_tree p vars (expr_tree p vars) (stmt_levels p vars k)) h
      ∙ stmt_kind_same (expr_tree p vars) _ _ k s.pos s.kind (o.stmts k s h)
      (λ c lc. stmt_levels_same o k (suc c) c lc (omega arith))
