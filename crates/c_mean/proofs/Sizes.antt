-- The sizes that a typed program uses are within the limit.
use Rattle.std.proofs.Common.{◌≡◌, ℕ, zero, suc, ◌<◌, ◌≤◌, Bool, true, false, List, length, get_or, Option, Some, None}
use Rattle.std.proofs.Common.{refl, sym, ap, subst, ◌∙◌, arith, inl, ⊎_elim}
use Rattle.std.specs.Prelude.{slice_get, if◌then◌else◌}
use Rattle.std.proofs.lemmas.Bool.{false≢true}
use Rattle.std.proofs.lemmas.Option.{same_Some, slice_get_within, slice_get-get_or}
use Rattle.c_tree.specs.Layout.{bare, bare_of, bare_within, size_limit}
use Rattle.c_tree.specs.Terms.{Term, type_of}
use Rattle.c_tree.specs.Types as ty
use Rattle.c_tree.specs.Types.{Ty, Pointer, Const}
use Rattle.c_tree.specs.Views.{type_from, types_of, terms_of, term_at, kind_term, operands, values, IsOrdered}
use Rattle.c_tree.specs.WellTyped.{Frame, TermFits, type_in, IsComplete, PointsToComplete, FunctionFits}
use Rattle.c_tree.specs.declared.typed.CType.{CType}
use Rattle.c_tree.specs.declared.typed.CType.TheVariants as types
use Rattle.c_tree.specs.declared.typed.Expr.{Expr}
use Rattle.c_tree.specs.declared.typed.ExprKind.{ExprKind}
use Rattle.c_tree.specs.declared.typed.ExprKind.TheVariants as exprs
use Rattle.c_tree.specs.declared.typed.FunDef.{FunDef}
use Rattle.c_tree.specs.declared.typed.Stmt.{Stmt}
use Rattle.c_tree.specs.declared.typed.StmtKind.{StmtKind}
use Rattle.c_tree.specs.declared.typed.StmtKind.TheVariants as stmts
use Rattle.c_tree.specs.declared.typed.Typed.{Typed}
use Rattle.c_tree.specs.declared.typed.VarDef.{VarDef}
use Rattle.c_tree.proofs.Forest.{forest_reads}
use Rattle.cheri_c_sem.specs.Expressions as meant
use Rattle.cheri_c_sem.specs.Types.{is_pointer, pointee_of, size_in, size_of_extent}
use Rattle.value_trees.specs.Nodes.{AreUsed, type_at}
use Rattle.value_trees.specs.Types.{AreSmall, TypesAgree}
use Rattle.value_trees.proofs.Fitting.{past}
use Rattle.value_trees.proofs.Nodes.{expression_is, expression_type}
use Rattle.mean_run.specs.Sizes.{AreSizedVariables, IsSizedBy, IsSizedStatement, IsSmall, PointsToSmall}

-- ---- what a type points to

abbrev pointed : Ty → Option Ty
pointed (Pointer u) = Some u
pointed (Const t) = pointed t
pointed t = None

pointed_bare : (t : Ty) → pointed (ty.bare t) ≡ pointed t
pointed_bare (Const t) = refl
pointed_bare t = refl

no_pointer : (t u : Ty) → ty.is_integer t ≡ true → pointed t ≡ Some u → ⊥
no_pointer (Pointer v) u e h = false≢true e
no_pointer (Const t) u e h = false≢true e
no_pointer t u e h = absurd cc

points_complete : (p : Typed) (t : Ty) → PointsToComplete p t → (u : Ty) → pointed t ≡ Some u → IsComplete p u
points_complete p t c u e = subst (IsComplete p) (same_Some c.0 u (sym (ap pointed c.1) ∙ e)) c.2

module _ (p : Typed) (o : IsOrdered p) where
  pointed_at : (d t : ℕ) → t < d → t < length p.types → is_pointer (bare_within d p.types t) ≡ true →
      pointed (type_in p t) ≡ Some (type_in p (pointee_of (bare_within d p.types t)))
  unfolding bare_within
  pointed_at zero t lt there e = absurd (omega (arith, lt))
  pointed_at (suc d) t lt there e =
      let c = get_or p.types t types.Void in
      let h = slice_get-get_or p.types t types.Void there in
      let r = forest_reads type_from ty.Void p.types t c h in
      ap pointed r.is ∙ by c h (λ j. get_or r.seen j ty.Void) r.before
      (λ u l. pointed_at d u (omega (arith, lt, l)) (omega (arith, there, l)))
      (sym (ap (λ z. is_pointer (bare_of z (bare_within d p.types))) h) ∙ e)
      ∙ sym (ap (λ z. Some (type_in p (pointee_of (bare_of z (bare_within d p.types))))) h)
    where
      by : (c : CType) → slice_get p.types t ≡ Some c → (go : ℕ → Ty) → ((j : ℕ) → j < t → go j ≡ type_in p j) →
          ((u : ℕ) → u < t → is_pointer (bare_within d p.types u) ≡ true →
          pointed (type_in p u) ≡ Some (type_in p (pointee_of (bare_within d p.types u))))
          → is_pointer (bare_of (Some c) (bare_within d p.types)) ≡ true →
          pointed (type_from c go) ≡ Some (type_in p (pointee_of (bare_of (Some c) (bare_within d p.types))))
      by (types.Pointer u) h go b k e = ap Some (b u (o.types t (types.Pointer u) h))
      by (types.Const u) h go b k e = let l = o.types t (types.Const u) h in ap pointed (b u l) ∙ k u l e
      by c h go b k e = absurd (false≢true e)

  pointer_at : (d t : ℕ) → t < d → t < length p.types → (v : Ty) → type_in p t ≡ Pointer v →
      is_pointer (bare_within d p.types t) ≡ true
  unfolding bare_within
  pointer_at zero t lt there v e = absurd (omega (arith, lt))
  pointer_at (suc d) t lt there v e =
      let c = get_or p.types t types.Void in
      let h = slice_get-get_or p.types t types.Void there in
      let r = forest_reads type_from ty.Void p.types t c h in
      ap (λ z. is_pointer (bare_of z (bare_within d p.types))) h ∙ by c (λ j. get_or r.seen j ty.Void) (sym r.is ∙ e)
    where
      by : (c : CType) (go : ℕ → Ty) → type_from c go ≡ Pointer v →
          is_pointer (bare_of (Some c) (bare_within d p.types)) ≡ true
      by (types.Pointer u) go q = refl
      by c go q = absurd cc

  no_type : (d t : ℕ) → slice_get p.types t ≡ None → is_pointer (bare_within d p.types t) ≡ false
  unfolding bare_within
  no_type zero t e = refl
  no_type (suc d) t e = ap (λ z. is_pointer (bare_of z (bare_within d p.types))) e

  -- ---- operands

  abbrev pub x : ℕ → Term
  x k = term_at (terms_of p) k

  -- an operand is there
  pub record IsOperand (a : ℕ) : Type 0 where
    pub node : Expr
    pub there : slice_get p.exprs a ≡ Some node
    pub typed : node.of < length p.types
    pub is : type_of (x a) ≡ type_in p node.of

  pub operand : (k j a : ℕ) (e : Expr) → slice_get p.exprs k ≡ Some e → slice_get (operands e.kind) j ≡ Some a →
      IsOperand a
  operand k j a e h i =
      let lt = o.operands_before k j a e h i in
      let l = slice_get_within p.exprs k e h in
      let node = get_or p.exprs a e in
      let there = slice_get-get_or p.exprs a e (omega (arith, lt, l)) in
      record { node = node; there = there; typed = o.typed a node there; is = expression_type p o a node there }

  abbrev own : ℕ → Option CType
  own a = bare p.types (type_at p a)

  operand_pointer : (a : ℕ) → IsOperand a → (v : Ty) → type_of (x a) ≡ Pointer v → is_pointer (own a) ≡ true
  operand_pointer a b v e = ap (λ (z : Option Expr). is_pointer (bare p.types (meant.type_of z))) b.there
      ∙ pointer_at (length p.types) b.node.of b.typed b.typed v (sym b.is ∙ e)

  module _ (used : AreUsed p) (small : AreSmall p) (agree : TypesAgree p) where
    complete_small : (t : ℕ) → IsComplete p (type_in p t) → IsSmall p t
    complete_small t c =
        let size : size_in p.types t ≡ c.0.size =
        agree.sizes t c.1.number (inl (sym c.1.is)) ∙ ap size_of_extent c.1.extent_is in
        subst (λ n. n ≤ size_limit) (sym size) c.1.within

    pointed_small : (t : ℕ) → ((u : Ty) → pointed (type_in p t) ≡ Some u → IsComplete p u) →
        PointsToSmall p (bare p.types t)
    pointed_small t whole there = by (slice_get p.types t) refl
      where
        by : (c : Option CType) → slice_get p.types t ≡ c → IsSmall p (pointee_of (bare p.types t))
        by None e = absurd (false≢true (sym (no_type (length p.types) t e) ∙ there))
        by (Some c) e =
            let lt = slice_get_within p.types t c e in
            complete_small (pointee_of (bare p.types t)) (whole _ (pointed_at (length p.types) t lt lt there))

    operand_small : (a : ℕ) → IsOperand a → ((u : Ty) → pointed (type_of (x a)) ≡ Some u → IsComplete p u) →
        PointsToSmall p (own a)
    operand_small a b whole =
        subst (λ (z : Option Expr). PointsToSmall p (bare p.types (meant.type_of z))) (sym b.there)
        (pointed_small b.node.of (subst (λ t. (u : Ty) → pointed t ≡ Some u → IsComplete p u) b.is whole))

    -- ---- nodes

    sized_by : (vars : List VarDef) (gives : Ty) (k : ℕ) (e : Expr) → slice_get p.exprs k ≡ Some e → (kd : ExprKind) →
        e.kind ≡ kd → TermFits (record { program = p; vars = vars; gives = gives })
        (kind_term (types_of p.types) kd (type_in p e.of) e.pos x) → IsSizedBy p e.of kd
    unfolding TermFits
    sized_by vars gives k e h (exprs.Decay a) i w = small.nodes vars gives a w.0.0
    sized_by vars gives k e h (exprs.Address a) i w = small.nodes vars gives a w.0.0
    sized_by vars gives k e h (exprs.Assign a b) i w = complete_small e.of w.1.4
    sized_by vars gives k e h (exprs.Difference a b) i w =
        let l = operand k 0 a e h (ap (λ z. slice_get (operands z) 0) i) in
        operand_small a l (points_complete p (type_of (x a)) w.1.0) (operand_pointer a l w.1.0.0 w.1.0.1)
    sized_by vars gives k e h (exprs.Compound op a b computed) i w =
        pointed_small computed (⊎_elim
        (λ c. points_complete p (type_in p computed) (subst (PointsToComplete p) (sym c.1) c.0))
        (λ c u q. absurd (no_pointer (type_in p computed) u c.2 q)) w.1.2)
    sized_by vars gives k e h (exprs.Step a adds front) i w =
        let t = type_in p e.of in
        operand_small a (operand k 0 a e h (ap (λ z. slice_get (operands z) 0) i)) (λ u q.
        let g : pointed t ≡ Some u = ap pointed w.1.1 ∙ pointed_bare (type_of (x a)) ∙ q in
        ⊎_elim (λ c. absurd (no_pointer t u c g)) (λ c. points_complete p t c u g) w.1.2)
    sized_by vars gives k e h (exprs.Plus a b minus) i w = by (is_pointer (own a)) refl
      where
        by : (c : Bool) → is_pointer (own a) ≡ c → IsSmall p (pointee_of (if c then own a else own b))
        by true z =
            operand_small a (operand k 0 a e h (ap (λ z. slice_get (operands z) 0) i)) (λ u q. ⊎_elim
            (λ c. points_complete p (type_in p e.of) w.1.0 u (sym (ap pointed c.0) ∙ q))
            (λ c. absurd (no_pointer (type_of (x a)) u c.1 q)) w.1.1) z
        by false z =
            let l = operand k 0 a e h (ap (λ z. slice_get (operands z) 0) i) in
            let r = operand k 1 b e h (ap (λ z. slice_get (operands z) 1) i) in
            ⊎_elim (λ c. absurd (false≢true (sym z ∙ operand_pointer a l w.1.0.0 (c.0 ∙ w.1.0.1))))
            (λ c. operand_small b r (λ u q. points_complete p (type_in p e.of) w.1.0 u (sym (ap pointed c.2) ∙ q))
            (operand_pointer b r w.1.0.0 (c.2 ∙ w.1.0.1))) w.1.1
    sized_by vars gives k e h kd i w = tt

    pub sized : (k : ℕ) (e : Expr) → slice_get p.exprs k ≡ Some e → IsSizedBy p e.of e.kind
    sized k e h =
        let u = used k e h in
        let f : Frame = record { program = p; vars = u.function.vars; gives = u.gives } in
        sized_by u.function.vars u.gives k e h e.kind refl (subst (TermFits f) (expression_is p o k e h) u.fits)

    -- ---- statements and variables

    initial_by : (k : ℕ) (s : Stmt) → slice_get p.stmts k ≡ Some s → (kd : StmtKind) → s.kind ≡ kd →
        IsSizedStatement p kd
    initial_by k s h (stmts.Init y offset a) i = by (slice_get p.exprs a) refl
      where
        by : (m : Option Expr) → slice_get p.exprs a ≡ m → IsSmall p (type_at p a)
        by (Some e) g = let u = used a e g in small.nodes u.function.vars u.gives a u.fits
        by None g =
            let lt = o.values_there k 0 a s h (ap (λ z. slice_get (values z) 0) i) in
            absurd (omega (arith, lt, past p.exprs a g))
    initial_by k s h kd i = tt

    pub initial : (k : ℕ) (s : Stmt) → slice_get p.stmts k ≡ Some s → IsSizedStatement p s.kind
    initial k s h = initial_by k s h s.kind refl

    pub variables : (d : FunDef) → FunctionFits p d → AreSizedVariables p d.vars
    variables d f y v h = complete_small v.of (f.vars_complete y v h)
