-- What calls take, what variables begin with, and which variables are objects.
use Rattle.std.proofs.Common.{◌≡◌, ℕ, zero, suc, ◌+◌, ◌≤◌, Bool, true, false, List, [], ◌∷◌, length, map, Option, Some}
use Rattle.std.proofs.Common.{None, refl, sym, ap, subst, ◌∙◌, arith, inl, inr, ◌⊎◌, ⊎_elim}
use Rattle.std.specs.Prelude.{slice_get, ◌||◌}
use Rattle.std.proofs.lemmas.Bool.{false≢true}
use Rattle.std.proofs.lemmas.Option.{same_Some, slice_get_within}
use Rattle.ck_base.specs.declared.positions.Pos.{Pos}
use Rattle.c_tree.specs.Layout.{extent, bare}
use Rattle.c_tree.specs.Terms as tree
use Rattle.c_tree.specs.Terms.{Term, Program, term, terms, no_terms, with_term, type_of, action, no_actions}
use Rattle.c_tree.specs.Types as ty
use Rattle.c_tree.specs.Types.{Ty, Tagged, Const, is_scalar, is_tagged, is_void, compatible}
use Rattle.c_tree.specs.Typing.{Sound}
use Rattle.c_tree.specs.Views.{types_of, terms_of, term_at, actions_of, action_at, kind_term, kind_action, expr_from}
use Rattle.c_tree.specs.Views.{no_term, values, Shows, IsOrdered}
use Rattle.c_tree.specs.WellTyped.{Frame, TermFits, ActionFits, InitFits, type_in, IsComplete, Inside, WellTyped}
use Rattle.c_tree.specs.declared.typed.Expr.{Expr}
use Rattle.c_tree.specs.declared.typed.ExprKind.{ExprKind}
use Rattle.c_tree.specs.declared.typed.ExprKind.TheVariants as exprs
use Rattle.c_tree.specs.declared.typed.FunDef.{FunDef}
use Rattle.c_tree.specs.declared.typed.Stmt.{Stmt}
use Rattle.c_tree.specs.declared.typed.StmtKind.TheVariants as stmts
use Rattle.c_tree.specs.declared.typed.Typed.{Typed}
use Rattle.c_tree.specs.declared.typed.VarDef.{VarDef}
use Rattle.typing_laws.proofs.Sound.{well_typed}
use Rattle.typing_laws.specs.Valued.{AreScalars, is_plain, IsValue, IsPlace, ActionValued, AreValues}
use Rattle.typing_laws.proofs.values.Whole.{valued}
use Rattle.cheri_c_sem.specs.Expressions as meant
use Rattle.cheri_c_sem.specs.Types.{is_record, is_simple}
use Rattle.value_trees.specs.Nodes.{IsUsed, IsExpr, Names, handed_on, HasRecord, HasScalar, NodesFit}
use Rattle.value_trees.proofs.Nodes.{expression_is, expression_type, statement_is}
use Rattle.value_trees.proofs.Values.{value_sort}
use Rattle.value_trees.proofs.Sorts.{record_at}
use Rattle.value_trees.proofs.Uses.{part_above, are_used}
use Rattle.value_trees.proofs.Records.{forest_past, is_struct, record_struct, record_is, extent_at, deep, void_extent}

-- ---- types

-- what is compatible with a struct or union is one
compatible_struct : (t u : Ty) → is_struct t ≡ true → compatible t u ≡ true → is_scalar (ty.bare u) ≡ false
compatible_struct (Tagged m) (Tagged n) h e = refl
compatible_struct (Const t) (Const u) h e = by t u h e
  where
    by : (t u : Ty) → is_struct t ≡ true → compatible t u ≡ true → is_scalar u ≡ false
    by (Tagged m) (Tagged n) h e = refl
    by (Const t) (Const u) h e = refl
    by (Tagged m) u h e = absurd (false≢true e)
    by (Const t) u h e = absurd (false≢true e)
    by t u h e = absurd (false≢true h)
compatible_struct (Tagged m) u h e = absurd (false≢true e)
compatible_struct (Const t) u h e = absurd (false≢true e)
compatible_struct t u h e = absurd (false≢true h)

tagged_struct : (t : Ty) → is_tagged t ≡ true → is_struct t ≡ true
tagged_struct (Tagged n) e = refl
tagged_struct t e = absurd (false≢true e)

bare_struct : (t : Ty) (n : ℕ) → ty.bare t ≡ Tagged n → is_struct t ≡ true
bare_struct (Tagged m) n e = refl
bare_struct (Const t) n e = ap is_struct e
bare_struct t n e = absurd cc

plain_scalar : (t : Ty) → is_plain t ≡ true → (is_void t ≡ true → ⊥) → is_scalar t ≡ true
plain_scalar t e h = by (is_void t) refl e
  where
    by : (b : Bool) → is_void t ≡ b → (b || is_scalar t) ≡ true → is_scalar t ≡ true
    by true i g = absurd (h i)
    by false i g = g

void_is : (t : Ty) → is_void t ≡ true → t ≡ ty.Void
void_is ty.Void e = refl
void_is t e = absurd (false≢true e)

scalar_among : (x : ℕ → Term) (ks : List ℕ) (j a : ℕ) → AreScalars (terms (map x ks)) → slice_get ks j ≡ Some a →
    is_scalar (type_of (x a)) ≡ true
scalar_among x [] j a h e = absurd cc
scalar_among x (k ∷ ks) zero a h e = ap (λ k. is_scalar (type_of (x k))) (sym (same_Some k a e)) ∙ h.0
scalar_among x (k ∷ ks) (suc j) a h e = scalar_among x ks j a h.1 e

pub past : {X : Type 0} (xs : List X) (k : ℕ) → slice_get xs k ≡ None → length xs ≤ k
past [] k h = omega arith
past (x ∷ xs) zero h = absurd cc
past (x ∷ xs) (suc k) h = let z = past xs k h in omega arith

-- ---- nodes

of_var : (f : Frame) (y : ℕ) (t : Ty) (r : Pos) → TermFits f (term (tree.Var y) no_terms t r) →
    (u : VarDef) × (slice_get f.vars y ≡ Some u) × (compatible t (type_in f.program u.of) ≡ true)
unfolding TermFits
of_var f y t r h = h.1

of_init : (f : Frame) (i : Inside) (y offset : ℕ) (a : Term) (r : Pos) →
    ActionFits f i (action (tree.Init y offset) (with_term a no_terms) no_actions r) →
    TermFits f a × InitFits f y offset (type_of a)
unfolding ActionFits TermFits
of_init f i y offset a r h = (h.0.0, h.1)

module _ (p : Typed) (h : Sound p) (w : WellTyped p) (v : AreValues p) (q : Program) (shows : Shows p q) where
  abbrev o : IsOrdered p
  o = w.ordered

  abbrev x : ℕ → Term
  x k = term_at (terms_of p) k

  abbrev frame : FunDef → Ty → Frame
  frame d gives = record { program = p; vars = d.vars; gives = gives }

  abbrev made : ExprKind → ℕ → Pos → Term
  made kd t r = kind_term (types_of p.types) kd (type_in p t) r x

  is_made : (k : ℕ) (kd : ExprKind) (n : IsExpr p k kd) → x k ≡ made kd n.node.of n.node.pos
  is_made k kd n = expression_is p o k n.node n.there ∙ ap (λ z. made z n.node.of n.node.pos) n.is

  used : (k : ℕ) (kd : ExprKind) → IsExpr p k kd → IsUsed p k
  used k kd n = are_used p h k n.node n.there

  -- a void type is not complete
  void_open : (t : Ty) → is_void t ≡ true → IsComplete p t → ⊥
  void_open t e c =
      let i : extent p.types c.1.number ≡ None =
      extent_at p o q shows 0 c.1.number ∙ ap (deep p o q shows 0) (c.1.is ∙ void_is t e)
      ∙ void_extent p o q shows (length p.types + 0) in
      let j = sym i ∙ c.1.extent_is in absurd cc

  passed : (k f : ℕ) (args : List ℕ) → IsExpr p k (exprs.Call f args) → (j a : ℕ) → slice_get args j ≡ Some a →
      HasScalar p a
  passed k f args n j a e =
      let m = is_made k (exprs.Call f args) n in
      ⊎_elim (λ g. scalar_among x args j a (subst IsValue m g).0.1.1 e) (λ g. absurd (subst IsPlace m g))
      (used k (exprs.Call f args) n).stands

  complete_record : (k : ℕ) (e : Expr) → slice_get p.exprs k ≡ Some e → is_tagged (type_of (x k)) ≡ true →
      IsComplete p (type_of (x k)) → HasRecord p k
  complete_record k e there g c =
      let t = expression_type p o k e there in
      ap (λ (m : Option Expr). is_record (bare p.types (meant.type_of m))) there
      ∙ record_at p o q shows e.of (o.typed k e there) (sym (ap is_tagged t) ∙ g) (subst (IsComplete p) t c)

  records : (k : ℕ) → is_tagged (type_of (x k)) ≡ true → IsComplete p (type_of (x k)) → HasRecord p k
  records k g c = by (slice_get p.exprs k) refl
    where
      by : (m : Option Expr) → slice_get p.exprs k ≡ m → HasRecord p k
      by (Some e) i = complete_record k e i g c
      by None i =
          let z : x k ≡ no_term = forest_past (expr_from (types_of p.types)) no_term p.exprs k (past p.exprs k i) in
          absurd (false≢true (ap (λ y. is_tagged (type_of y)) (sym z) ∙ g))

  initial : (k y offset a : ℕ) (s : Stmt) → slice_get p.stmts k ≡ Some s → s.kind ≡ stmts.Init y offset a →
      HasScalar p a ⊎ HasRecord p a
  initial k y offset a s there is =
      let up = part_above p w v (length p.stmts) k (omega arith) (slice_get_within p.stmts k s there) in
      let m = statement_is p o k s there
      ∙ ap (λ z. kind_action (terms_of p) z s.pos (λ j. action_at (actions_of p) j)) is in
      let f = of_init (frame up.function up.gives) up.inside y offset (x a) s.pos
      (subst (ActionFits (frame up.function up.gives) up.inside) m up.fits) in
      let c : IsComplete p (type_of (x a)) = (f.1.2, f.1.5) in
      let g = subst ActionValued m up.valued in
      let lt = o.values_there k 0 a s there (ap (λ z. slice_get (values z) 0) is) in
      ⊎_elim (λ e. inl (plain_scalar (type_of (x a)) e (λ z. void_open (type_of (x a)) z c)))
      (λ e. inr (records a e.0 c)) (value_sort (frame up.function up.gives) (x a) g.1.0 f.0)

  -- ---- variables

  -- a variable of the type of a struct or union is an object
  object_of : (n : ℕ) (d : FunDef) → slice_get p.funs n ≡ Some d → (k y : ℕ) → Names p d k y →
      is_struct (type_of (x k)) ≡ true → is_simple (slice_get d.vars y) ≡ false
  object_of n d there k y m s =
      let f = of_var (frame d m.gives) y (type_in p m.names.node.of) m.names.node.pos
      (subst (TermFits (frame d m.gives)) (is_made k (exprs.Var y) m.names) m.fits) in
      let t = expression_type p o k m.names.node m.names.there in
      by (is_simple (slice_get d.vars y)) refl f
      (compatible_struct (type_in p m.names.node.of) (type_in p f.0.of) (sym (ap is_struct t) ∙ s) f.2)
    where
      by : (b : Bool) → is_simple (slice_get d.vars y) ≡ b → (f : (u : VarDef) × (slice_get d.vars y ≡ Some u) ×
          (compatible (type_in p m.names.node.of) (type_in p u.of) ≡ true)) →
          is_scalar (ty.bare (type_in p f.0.of)) ≡ false → b ≡ false
      by true e f g = absurd (false≢true (sym g
          ∙ (w.funs n d there).simple_scalar y f.0 f.1 (sym (ap is_simple f.1) ∙ e)))
      by false e f g = refl

  located : (n : ℕ) (d : FunDef) → slice_get p.funs n ≡ Some d → (k y : ℕ) → Names p d k y → HasRecord p k →
      is_simple (slice_get d.vars y) ≡ false
  located n d there k y m r =
      let e = m.names.node in
      let t = expression_type p o k e m.names.there in
      let z = ap (λ (m : Option Expr). is_record (bare p.types (meant.type_of m))) (sym m.names.there) ∙ r in
      object_of n d there k y m
      (ap is_struct t ∙ record_struct q.tags (type_in p e.of) (sym (record_is p o q shows e.of) ∙ z))

  -- the operands that are handed on are structs or unions, where they are variables
  handed_struct : (kd : ExprKind) (f : Frame) (t : ℕ) (r : Pos) (a j : ℕ) → slice_get (handed_on kd) j ≡ Some a →
      TermFits f (made kd t r) → IsValue (made kd t r) ⊎ IsPlace (made kd t r) →
      (is_struct (type_of (x a)) ≡ true) ⊎ IsValue (x a)
  unfolding TermFits
  handed_struct (exprs.Member b m) f t r a zero e w s =
      inl (ap (λ k. is_struct (type_of (x k))) (sym (same_Some b a e)) ∙ bare_struct (type_of (x b)) w.1.0 w.1.3)
  handed_struct (exprs.Comma c b) f t r a zero e w s =
      inr (subst (λ k. IsValue (x k)) (same_Some b a e) (⊎_elim (λ v. v.1.1.0) (λ v. absurd v) s))
  handed_struct (exprs.Conditional c b d) f t r a zero e w s =
      inr (subst (λ k. IsValue (x k)) (same_Some b a e) (⊎_elim (λ v. v.1.1.0) (λ v. absurd v) s))
  handed_struct (exprs.Conditional c b d) f t r a (suc zero) e w s =
      inr (subst (λ k. IsValue (x k)) (same_Some d a e) (⊎_elim (λ v. v.1.1.1.0) (λ v. absurd v) s))
  handed_struct kd f t r a j e w s = absurd cc

  handed : (n : ℕ) (d : FunDef) → slice_get p.funs n ≡ Some d → (k a j y : ℕ) (kd : ExprKind) → Names p d a y →
      IsExpr p k kd → slice_get (handed_on kd) j ≡ Some a → is_simple (slice_get d.vars y) ≡ false
  handed n d there k a j y kd m i e =
      let u = used k kd i in
      let f = frame u.function u.gives in
      let z = is_made k kd i in
      let s = handed_struct kd f i.node.of i.node.pos a j e (subst (TermFits f) z u.fits)
      (subst (λ t. IsValue t ⊎ IsPlace t) z u.stands) in
      object_of n d there a y m (⊎_elim (λ g. g)
      (λ g. let c = is_made a (exprs.Var y) m.names in
      tagged_struct (type_of (x a)) (ap (λ t. is_tagged (type_of t)) c ∙ (subst IsValue c g).0)) s)

  fit : NodesFit p
  fit = record { passed = passed; initial = initial; located = located; handed = handed; records = records }

pub nodes_fit : (p : Typed) → Sound p → NodesFit p
nodes_fit p h = let t = h.types.types in fit p h (well_typed p h) (valued p h) t.program t.shows
