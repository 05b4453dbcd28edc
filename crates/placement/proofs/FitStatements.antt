-- The trees of statements and functions that are well typed fit.
use Rattle.std.proofs.Common.{◌≡◌, ℕ, zero, suc, ◌<◌, Bool, true, false, List, [], ◌∷◌, ◌++◌, length, map, get_or, Some}
use Rattle.std.proofs.Common.{None, refl, sym, subst, arith}
use Rattle.std.specs.Prelude.{slice_get, if◌then◌else◌}
use Rattle.std.proofs.lemmas.Option.{slice_get-get_or}
use Rattle.ck_base.specs.declared.positions.Pos.{Pos}
use Rattle.c_tree.specs.declared.typed.Stmt.{Stmt}
use Rattle.c_tree.specs.declared.typed.StmtKind.{StmtKind}
use Rattle.c_tree.specs.declared.typed.StmtKind.TheVariants as stmts
use Rattle.c_tree.specs.declared.typed.Typed.{Typed}
use Rattle.c_tree.specs.declared.typed.VarDef.{VarDef}
use Rattle.c_tree.specs.Layout as layout
use Rattle.c_tree.specs.Types.{Ty}
use Rattle.c_tree.specs.Terms.{Action, actions}
use Rattle.c_tree.specs.Views.{terms_of, term_at, kind_action, stmt_from, no_action, actions_of, action_at, values}
use Rattle.c_tree.specs.Views.{parts, IsOrdered}
use Rattle.c_tree.specs.WellTyped.{Inside, TermFits, ActionFits, ActionsFit}
use Rattle.c_tree.proofs.Forest.{forest_reads}
use Rattle.cheri_c_sem.specs.Types.{size_in, align_in, is_simple, objects_before, is_record, kind_of, unit_of}
use Rattle.cheri_c_sem.specs.Types.{type_of_var}
use Rattle.cheri_c_sem.specs.Expressions.{type_of, expr_tree}
use Rattle.cheri_c_sem.specs.Programs.{statements, declared, initialisation, stmt_kind_tree, stmt_tree, parameter_of}
use Rattle.cheri_c_sem.specs.Tree.{Ex, St, Sts, Give, Init, Fill, Simple, Objects, In_variable, In_object}
use Rattle.cheri_c_sem.proofs.Unfold.{statement_node}
use Rattle.placement.specs.Trees.{DeclaredFit, AllDeclaredFit, DoesFit, DoFit, ParameterFit, ParametersFit}
use Rattle.placement.proofs.Ordering.{ordered_of}
use Rattle.placement.proofs.FitExpressions.{globals, functions, objects, Fits, F, object_within, expression_fit}

module _ (p : Typed) (vars : List VarDef) where
  abbrev Done : St → Type 0
  Done a = DoesFit (globals p vars) (functions p vars) (objects p vars) a

  abbrev AllDone : Sts → Type 0
  AllDone ss = DoFit (globals p vars) (functions p vars) (objects p vars) ss

  declared_fit : (x : ℕ) → DeclaredFit (globals p vars) (functions p vars) (objects p vars) (declared p vars x)
  declared_fit x = go (is_simple (slice_get vars x)) refl
    where
      go : (b : Bool) → is_simple (slice_get vars x) ≡ b → DeclaredFit (globals p vars) (functions p vars)
          (objects p vars) (if b then Simple x else Objects (objects_before vars x))
      go true e = tt
      go false e = object_within p vars x e

  all_declared : (xs : List ℕ) → AllDeclaredFit (globals p vars) (functions p vars) (objects p vars)
      (map (declared p vars) xs)
  all_declared [] = tt
  all_declared (x ∷ xs) = (declared_fit x, all_declared xs)

  parameter_fit : (x : ℕ) → ParameterFit (globals p vars) (functions p vars) (objects p vars) (parameter_of p vars x)
  parameter_fit x = go (is_simple (slice_get vars x)) refl
    where
      go : (b : Bool) → is_simple (slice_get vars x) ≡ b → ParameterFit (globals p vars) (functions p vars)
          (objects p vars) (if b then In_variable x else In_object (objects_before vars x)
          (kind_of (layout.bare p.types (type_of_var (slice_get vars x)))))
      go true e = tt
      go false e = object_within p vars x e

  pub parameters_fit : (xs : List ℕ) → ParametersFit (globals p vars) (functions p vars) (objects p vars)
      (map (parameter_of p vars) xs)
  parameters_fit [] = tt
  parameters_fit (x ∷ xs) = (parameter_fit x, parameters_fit xs)

  initialisation_fit : (pos : Pos) (x offset t : ℕ) (v : Ex) → Fits p vars v
      → Done (initialisation p vars pos x offset t v)
  initialisation_fit pos x offset t v f = go (is_simple (slice_get vars x)) (is_record (layout.bare p.types t)) refl
    where
      go : (b c : Bool) → is_simple (slice_get vars x) ≡ b
          → Done (if b then Give x v else if c then Fill pos (objects_before vars x) offset (size_in p.types t)
          (unit_of (align_in p.types t)) v else Init pos (objects_before vars x) offset
          (kind_of (layout.bare p.types t)) v)
      go true c e = f
      go false true e = (object_within p vars x e, f)
      go false false e = (object_within p vars x e, f)

  module _ (gives : Ty) (tree : ℕ → St) (go : ℕ → Action) where
    statements_fit : (ks : List ℕ) (i : Inside)
        → ((j a : ℕ) → slice_get ks j ≡ Some a → (i : Inside) → ActionFits (F p vars gives) i (go a) → Done (tree a))
        → ActionsFit (F p vars gives) i (actions (map go ks)) → AllDone (statements tree ks)
    unfolding ActionFits
    statements_fit [] i h f = tt
    statements_fit (k ∷ ks) i h f = (h 0 k refl i f.0, statements_fit ks i (λ j a e. h (suc j) a e) f.1)

    with_last : (ks : List ℕ) (x : ℕ) (i : Inside)
        → ((j a : ℕ) → slice_get (ks ++ x ∷ []) j ≡ Some a → (i : Inside) → ActionFits (F p vars gives) i (go a)
        → Done (tree a))
        → ActionsFit (F p vars gives) i (actions (map go ks ++ go x ∷ []))
        → AllDone (statements tree ks) × Done (tree x)
    unfolding ActionFits
    with_last [] x i h f = (tt, h 0 x refl i f.0)
    with_last (k ∷ ks) x i h f = let r = with_last ks x i (λ j a e. h (suc j) a e) f.1 in ((h 0 k refl i f.0, r.0), r.1)

    statement_kind_fit : (kind : StmtKind) (pos : Pos) (i : Inside)
        → ((j a : ℕ) → slice_get (values kind) j ≡ Some a → TermFits (F p vars gives) (term_at (terms_of p) a)
        → Fits p vars (expr_tree p vars a))
        → ((j a : ℕ) → slice_get (parts kind) j ≡ Some a → (i : Inside) → ActionFits (F p vars gives) i (go a)
        → Done (tree a)) → ActionFits (F p vars gives) i (kind_action (terms_of p) kind pos go)
        → Done (stmt_kind_tree p vars (expr_tree p vars) tree pos kind)
    unfolding ActionFits TermFits
    statement_kind_fit (stmts.Expr a) pos i v h f = v 0 a refl f.0.0
    statement_kind_fit (stmts.Init x offset a) pos i v h f =
        initialisation_fit pos x offset (type_of (slice_get p.exprs a)) (expr_tree p vars a) (v 0 a refl f.0.0)
    statement_kind_fit (stmts.Block xs ks) pos i v h f = (all_declared xs, statements_fit ks _ h f.2)
    statement_kind_fit (stmts.If c a None) pos i v h f = (v 0 c refl f.0.0, h 0 a refl _ f.2.0, tt)
    statement_kind_fit (stmts.If c a (Some b)) pos i v h f =
        (v 0 c refl f.0.0, h 0 a refl _ f.2.0, h 1 b refl _ f.2.1.0)
    statement_kind_fit (stmts.While c a) pos i v h f = (v 0 c refl f.0.0, h 0 a refl _ f.2.0)
    statement_kind_fit (stmts.Do a c) pos i v h f = (v 0 c refl f.0.0, h 0 a refl _ f.2.0)
    statement_kind_fit (stmts.For xs first None None a) pos i v h f = let r = with_last first a _ h f.2 in
        (all_declared xs, r.0, tt, tt, r.1)
    statement_kind_fit (stmts.For xs first None (Some s) a) pos i v h f = let r = with_last first a _ h f.2 in
        (all_declared xs, r.0, tt, v 0 s refl f.0.0, r.1)
    statement_kind_fit (stmts.For xs first (Some c) None a) pos i v h f = let r = with_last first a _ h f.2 in
        (all_declared xs, r.0, v 0 c refl f.0.0, tt, r.1)
    statement_kind_fit (stmts.For xs first (Some c) (Some s) a) pos i v h f = let r = with_last first a _ h f.2 in
        (all_declared xs, r.0, v 0 c refl f.0.0, v 1 s refl f.0.1.0, r.1)
    statement_kind_fit (stmts.Switch on xs labels ks) pos i v h f =
        (v 0 on refl f.0.0, all_declared xs, statements_fit ks _ h f.2)
    statement_kind_fit stmts.Break pos i v h f = tt
    statement_kind_fit stmts.Continue pos i v h f = tt
    statement_kind_fit (stmts.Return None) pos i v h f = tt
    statement_kind_fit (stmts.Return (Some a)) pos i v h f = v 0 a refl f.0.0
    statement_kind_fit stmts.Empty pos i v h f = tt

  below_fit : IsOrdered p → (gives : Ty) (n k : ℕ) → k < n → k < length p.stmts → (i : Inside)
      → ActionFits (F p vars gives) i (get_or (actions_of p) k no_action) → Done (stmt_tree p vars k)
  below_fit o gives zero k l m i f = absurd (omega (arith, l))
  below_fit o gives (suc n) k l m i f =
      let c : Stmt = get_or p.stmts k (record { kind = stmts.Empty; pos = record { line = 0; col = 0 } }) in
      let e : slice_get p.stmts k ≡ Some c = slice_get-get_or p.stmts k _ m in
      let r = forest_reads (stmt_from (terms_of p)) no_action p.stmts k c e in
      subst Done (sym (statement_node p vars (ordered_of p o) k c e))
      (statement_kind_fit gives (stmt_tree p vars) (λ j. get_or r.seen j no_action) c.kind c.pos i
      (λ j a q g. expression_fit p vars o gives a (o.values_there k j a c e q) g)
      (λ j a q i g. let lt = o.parts_before k j a c e q in below_fit o gives n a (omega (arith, lt, l))
      (omega (arith, lt, m)) i (subst (ActionFits (F p vars gives) i) (r.before a lt) g))
      (subst (ActionFits (F p vars gives) i) r.is f))

  -- the tree of a statement that is well typed
  pub statement_fit : IsOrdered p → (gives : Ty) (k : ℕ) → k < length p.stmts → (i : Inside)
      → ActionFits (F p vars gives) i (action_at (actions_of p) k) → Done (stmt_tree p vars k)
  statement_fit o gives k m i f = below_fit o gives (suc k) k (omega arith) m i f
