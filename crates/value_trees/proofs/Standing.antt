-- By induction on the numbers of expressions: the tree of each is a value or a place as it is.
use Rattle.std.proofs.Common.{◌≡◌, ℕ, zero, suc, ◌<◌, Bool, true, false, List, [], ◌∷◌, map, get_or, Option, Some, None}
use Rattle.std.proofs.Common.{refl, sym, ap, ◌∙◌, subst, arith, inl, inr, ◌⊎◌, ⊎_elim, if◌then◌else◌}
use Rattle.std.specs.Prelude.{slice_get, not, ◌&&◌}
use Rattle.std.proofs.lemmas.Bool.{false≢true}
use Rattle.std.proofs.lemmas.Option.{same_Some, slice_get_within, slice_get-get_or}
use Rattle.ck_base.specs.declared.positions.Pos.{Pos}
use Rattle.c_tree.specs.Layout.{bare}
use Rattle.c_tree.specs.Libraries.{Asked, Any_capability, A, Service, services}
use Rattle.c_tree.specs.Terms as tree
use Rattle.c_tree.specs.Terms.{Shape, Term, Terms, Program, term, terms, no_terms, with_term, type_of}
use Rattle.c_tree.specs.Types as ty
use Rattle.c_tree.specs.Types.{Ty, Int, Cap, Tagged, is_pointer, is_scalar, is_tagged}
use Rattle.c_tree.specs.Typing.{Sound}
use Rattle.c_tree.specs.Views.{types_of, terms_of, term_at, kind_term, operands, Shows, IsOrdered}
use Rattle.c_tree.specs.WellTyped.{Frame, TermFits, TermsFit, ShapeFits, AllAskedFit, type_in, IsComplete}
use Rattle.c_tree.specs.declared.typed.Expr.{Expr}
use Rattle.c_tree.specs.declared.typed.ExprKind.{ExprKind}
use Rattle.c_tree.specs.declared.typed.ExprKind.TheVariants as exprs
use Rattle.c_tree.specs.declared.typed.Typed.{Typed}
use Rattle.c_tree.specs.declared.typed.UnaryOp.{UnaryOp}
use Rattle.c_tree.specs.declared.typed.UnaryOp.TheVariants as unary
use Rattle.c_tree.specs.declared.typed.VarDef.{VarDef}
use Rattle.typing_laws.specs.Scoping.{IsAmong, TermScoped, TermsScoped}
use Rattle.typing_laws.specs.Valued.{AreScalars, IsValue, IsPlace, AreAsked}
use Rattle.cheri_c_sem.specs.Expressions.{constant, kind_tree, expr_tree, variable, arguments, bare_type, kind_at}
use Rattle.cheri_c_sem.specs.Expressions as meant
use Rattle.cheri_c_sem.specs.Kinds.{Kind, Plain, Capability}
use Rattle.cheri_c_sem.specs.Tree.{Ex, Aggregate, Load, Discard, Copy, Assign}
use Rattle.cheri_c_sem.specs.Tree as cheri
use Rattle.cheri_c_sem.specs.Types as cheri_types
use Rattle.cheri_c_sem.specs.Types.{kind_of, is_signed_capability, objects_before, is_record, scalar_of}
use Rattle.cheri_c_sem.specs.Types.{is_simple}
use Rattle.cheri_c_sem.proofs.Unfold.{expression_node}
use Rattle.placement.proofs.Ordering.{ordered_of}
use Rattle.lower_runs.specs.States.{Scene}
use Rattle.lower_runs.specs.Trees.{HasSpot, Values, Places, AllValues}
use Rattle.value_trees.specs.Standing.{HaveSpots, Stands, TreeStands, TreesStand}
use Rattle.value_trees.proofs.Nodes.{expression_is, expression_type}
use Rattle.value_trees.proofs.Values.{untagged, integer_untagged, pointer_untagged, of_term, of_terms, unary_untagged}
use Rattle.value_trees.proofs.Values.{plain_untagged, void_untagged, member_tagged}
use Rattle.value_trees.proofs.Sorts.{capability_at, void_at, scalar_at, record_at}

-- ---- values and places

module _ (g : Scene) where
  stand : (b : Bool) (e : Ex) → b ≡ false → Values g e → Stands g b e
  stand true e h v = absurd (false≢true (sym h))
  stand false e h v = v

  stand_place : (b : Bool) (e : Ex) → b ≡ true → Places g e → Stands g b e
  stand_place true e h v = v
  stand_place false e h v = absurd (false≢true h)

  value_from : (b : Bool) (e : Ex) → b ≡ false → Stands g b e → Values g e
  value_from true e h v = absurd (false≢true (sym h))
  value_from false e h v = v

  place_from : (b : Bool) (e : Ex) → b ≡ true → Stands g b e → Places g e
  place_from true e h v = v
  place_from false e h v = absurd (false≢true h)

  either_from : (b : Bool) (e : Ex) → Stands g b e → Values g e ⊎ Places g e
  either_from true e v = inr v
  either_from false e v = inl v

  constant_value : (n : ℕ) (k : Kind) → Values g (constant n k)
  constant_value n (Plain k) = tt
  constant_value n (Capability s) = tt

  variable_by : (pos : Pos) (y z : ℕ) (b : Bool) → (b ≡ false → HasSpot (g.spot z)) →
      Places g (if b then cheri.Variable pos y else cheri.Local pos z)
  variable_by pos y z true n = tt
  variable_by pos y z false n = n refl

  variable_place : (p : Typed) (vars : List VarDef) (js : List ℕ) → HaveSpots vars g js → (pos : Pos) (y : ℕ) →
      IsAmong js y → Places g (variable p vars pos y)
  variable_place p vars js spots pos y n =
      variable_by pos y (objects_before vars y) (is_simple (slice_get vars y)) (spots y n)

  sign_value : (pos : Pos) (j : Kind) (e : Ex) (op : UnaryOp) → Values g e → Values g (meant.sign_of pos j e op)
  sign_value pos j e unary.Plus v = v
  sign_value pos j e unary.Minus v = v
  sign_value pos j e unary.Complement v = v
  sign_value pos j e unary.LogicalNot v = v

  module _ (p : Typed) (vars : List VarDef) (pos : Pos) (plain : Bool) (e : Ex) where
    abbrev converted : Bool → Option Kind → Option Kind → Ex
    converted b old new = if b then Discard e else meant.conversion_by p vars pos old new plain e

    convert_void : (b : Bool) (old new : Option Kind) → b ≡ true → Values g e ⊎ Places g e →
        Values g (converted b old new)
    convert_void true old new h v = v
    convert_void false old new h v = absurd (false≢true h)

    convert_value : (b : Bool) (old new : Option Kind) (j l : Kind) → old ≡ Some j → new ≡ Some l → Values g e →
        Values g (converted b old new)
    convert_value true old new j l h i v = inl v
    convert_value false (Some m) (Some z) j l h i v = v
    convert_value false None new j l h i v = absurd cc
    convert_value false (Some m) None j l h i v = absurd cc

  both : (b : Bool) (c d : Ex) → Values g c ⊎ Places g c → Stands g b d → Stands g b (cheri.Comma c d)
  both true c d l r = (l, r)
  both false c d l r = (l, r)

  either_branch : (b : Bool) (pos : Pos) (j : Kind) (c d h : Ex) → Values g c → Stands g b d → Stands g b h →
      Stands g b (cheri.Conditional pos j c d h)
  either_branch true pos j c d h v l r = (v, l, r)
  either_branch false pos j c d h v l r = (v, l, r)

  assign_stands : (b : Bool) (pos : Pos) (m u : ℕ) (j : Kind) (c d : Ex) → Places g c → Stands g b d →
      Stands g b (if b then Copy pos m u c d else Assign j c d)
  assign_stands true pos m u j c d l r = (l, r)
  assign_stands false pos m u j c d l r = (l, r)

-- ---- library functions

abbrev asks_scalars : List Asked → Bool
asks_scalars [] = true
asks_scalars (Any_capability ∷ rest) = asks_scalars rest
asks_scalars (A u ∷ rest) = not (is_tagged u) && asks_scalars rest

abbrev all_ask_scalars : List Service → Bool
all_ask_scalars [] = true
all_ask_scalars (f ∷ fs) = asks_scalars f.takes && all_ask_scalars fs

services_ask : all_ask_scalars services ≡ true
unfolding services
services_ask = refl

left_of : (a b : Bool) → (a && b) ≡ true → a ≡ true
left_of true b e = refl
left_of false b e = absurd (false≢true e)

right_of : (a b : Bool) → (a && b) ≡ true → b ≡ true
right_of true b e = e
right_of false b e = absurd (false≢true e)

not_true : (a : Bool) → not a ≡ true → a ≡ false
not_true true e = absurd (false≢true e)
not_true false e = refl

service_asks : (fs : List Service) → all_ask_scalars fs ≡ true → (k : ℕ) (f : Service) → slice_get fs k ≡ Some f →
    asks_scalars f.takes ≡ true
service_asks [] h k f e = absurd cc
service_asks (m ∷ fs) h zero f e =
    subst (λ (f : Service). asks_scalars f.takes ≡ true) (same_Some m f e) (left_of _ _ h)
service_asks (m ∷ fs) h (suc k) f e = service_asks fs (right_of (asks_scalars m.takes) _ h) k f e

abbrev AllUntagged : Terms → Type 0
AllUntagged no_terms = Unit {0}
AllUntagged (with_term x xs) = (is_tagged (type_of x) ≡ false) × AllUntagged xs

capability_untagged : (t : Ty) → ty.is_capability t ≡ true → is_tagged t ≡ false
capability_untagged (Tagged n) e = absurd (false≢true e)
capability_untagged t e = refl

asked_untagged : (asks : List Asked) (xs : Terms) → asks_scalars asks ≡ true → AllAskedFit asks xs → AllUntagged xs
asked_untagged [] no_terms h w = tt
asked_untagged [] (with_term x xs) h w = absurd w
asked_untagged (m ∷ rest) no_terms h w = absurd w
asked_untagged (Any_capability ∷ rest) (with_term x xs) h w =
    (capability_untagged (type_of x) w.0, asked_untagged rest xs h w.1)
asked_untagged (A u ∷ rest) (with_term x xs) h w = (
  ap is_tagged w.0 ∙ not_true (is_tagged u) (left_of _ _ h),
  asked_untagged rest xs (right_of (not (is_tagged u)) _ h) w.1,
)

module _ (g : Scene) (pos : Pos) (y z : ℕ) (minus : Bool) (j l : Kind) (c d : Ex) where
  abbrev summed : Bool → Ex
  summed b =
      if b then cheri.Binary pos (cheri.Moved y minus false j) c d
      else cheri.Binary pos (cheri.Moved z minus true l) c d

  sum_value : (b : Bool) → Values g c → Values g d → Values g (summed b)
  sum_value true v w = (tt, v, w)
  sum_value false v w = (tt, v, w)

-- ---- one node

module _ (p : Typed) (o : IsOrdered p) (q : Program) (shows : Shows p q) (vars : List VarDef) (gives : Ty) (js : List ℕ)
    (g : Scene) (spots : HaveSpots vars g js) where
  abbrev F : Frame
  F = record { program = p; vars = vars; gives = gives }

  abbrev x : ℕ → Term
  x k = term_at (terms_of p) k

  abbrev tr : ℕ → Ex
  tr k = expr_tree p vars k

  abbrev St : ℕ → Type 0
  St k = TreeStands p vars gives js g k

  module _ (k : ℕ) (e : Expr) (there : slice_get p.exprs k ≡ Some e)
      (before : (a : ℕ) → a < k → St a) where
    abbrev t : Ty
    t = type_in p e.of

    abbrev tree_of : ExprKind → Ex
    tree_of kd = kind_tree p vars tr e.of e.pos kd

    abbrev term_of : ExprKind → Term
    term_of kd = kind_term (types_of p.types) kd t e.pos x

    less : (kd : ExprKind) → e.kind ≡ kd → (j a : ℕ) → slice_get (operands kd) j ≡ Some a → a < k
    less kd i j a h = o.operands_before k j a e there (ap (λ z. slice_get (operands z) j) i ∙ h)

    at : (kd : ExprKind) → e.kind ≡ kd → (j a : ℕ) → slice_get (operands kd) j ≡ Some a → St a
    at kd i j a h = before a (less kd i j a h)

    val : (a : ℕ) → St a → is_tagged (type_of (x a)) ≡ false → IsValue (x a) → TermFits F (x a) → TermScoped js (x a) →
        Values g (tr a)
    val a s u v w n = value_from g (is_tagged (type_of (x a))) (tr a) u (s.value v w n)

    pla : (a : ℕ) → St a → is_tagged (type_of (x a)) ≡ true → IsValue (x a) → TermFits F (x a) → TermScoped js (x a) →
        Places g (tr a)
    pla a s u v w n = place_from g (is_tagged (type_of (x a))) (tr a) u (s.value v w n)

    one : (n : Shape) (a : ℕ) → TermFits F (term n (with_term (x a) no_terms) t e.pos) →
        TermFits F (x a) × ShapeFits F n (with_term (x a) no_terms) t
    one n a w = let h = of_term F n _ t e.pos w in ((of_terms F (x a) no_terms h.0).0, h.1)

    two : (n : Shape) (a b : ℕ) → TermFits F (term n (with_term (x a) (with_term (x b) no_terms)) t e.pos) →
        TermFits F (x a) × TermFits F (x b) × ShapeFits F n (with_term (x a) (with_term (x b) no_terms)) t
    two n a b w =
        let h = of_term F n _ t e.pos w in let i = of_terms F (x a) _ h.0 in
        (i.0, (of_terms F (x b) no_terms i.1).0, h.1)

    loaded : (a : ℕ) (j : Kind) (b : Bool) → Places g (tr a) →
        Stands g b (if b then Aggregate (tr a) else Load j (tr a))
    loaded a j true h = h
    loaded a j false h = h

    -- a struct or union that is complete
    sort_is : (is_scalar t ≡ true) ⊎ (is_tagged t ≡ true) → IsComplete p t → is_tagged t ≡ is_record (bare p.types e.of)
    sort_is s w = ⊎_elim (λ h. untagged t h ∙ sym (scalar_at p o e.of (o.typed k e there) h).no_record)
        (λ h. h ∙ sym (record_at p o q shows e.of (o.typed k e there) h w)) s

    seen : (a : ℕ) → a < k → (m : Expr) × (slice_get p.exprs a ≡ Some m)
    seen a lt = (
      get_or p.exprs a e,
      slice_get-get_or p.exprs a e (let z = slice_get_within p.exprs k e there in omega arith),
    )

    scalar_kind : (a : ℕ) → a < k → is_scalar (type_of (x a)) ≡ true →
        (j : Kind) × (scalar_of (bare_type p vars a) ≡ Some j)
    scalar_kind a lt u =
        let z = seen a lt in
        let y = scalar_at p o z.0.of (o.typed a z.0 z.1) (sym (ap is_scalar (expression_type p o a z.0 z.1)) ∙ u) in
        (y.kind, ap (λ (m : Option Expr). scalar_of (bare p.types (meant.type_of m))) z.1 ∙ y.is)

    capability_kind : (a : ℕ) → a < k → (s : Bool) → type_of (x a) ≡ Cap s → kind_at p vars a ≡ Capability s
    capability_kind a lt s u =
        let z = seen a lt in
        ap (λ (m : Option Expr). kind_of (bare p.types (meant.type_of m))) z.1
        ∙ ap kind_of (capability_at p o z.0.of (o.typed a z.0 z.1) s (sym (expression_type p o a z.0 z.1) ∙ u))

    arguments_by : (xs : List ℕ) → ((j a : ℕ) → slice_get xs j ≡ Some a → St a) → AllUntagged (terms (map x xs)) →
        AreAsked false (terms (map x xs)) → TermsFit F (terms (map x xs)) → TermsScoped js (terms (map x xs)) →
        AllValues g (arguments tr xs)
    arguments_by [] h u v w n = tt
    arguments_by (a ∷ xs) h u v w n =
        let i = of_terms F (x a) (terms (map x xs)) w in
        (val a (h 0 a refl) u.0 v.0 i.0 n.0, arguments_by xs (λ j b m. h (suc j) b m) u.1 v.1 i.1 n.1)

    scalars_untagged : (xs : List ℕ) → AreScalars (terms (map x xs)) → AllUntagged (terms (map x xs))
    scalars_untagged [] h = tt
    scalars_untagged (a ∷ xs) h = (untagged _ h.0, scalars_untagged xs h.1)

    value_by : (kd : ExprKind) → e.kind ≡ kd → IsValue (term_of kd) → TermFits F (term_of kd) →
        TermScoped js (term_of kd) → Stands g (is_tagged t) (tree_of kd)
    value_by (exprs.Constant c) i v w n =
        stand g _ _ (untagged t (of_term F (tree.Constant c) no_terms t e.pos w).1.1) (constant_value g c _)
    value_by (exprs.Literal c) i v w n = absurd v.0
    value_by (exprs.Var y) i v w n = stand_place g _ _ v.0 (variable_place g p vars js spots e.pos y n.0)
    value_by (exprs.Global c) i v w n = absurd v.0
    value_by (exprs.Fun c) i v w n = absurd v.0
    value_by (exprs.Load a) i v w n =
        let h = one tree.Load a w in
        let s = at (exprs.Load a) i 0 a refl in
        rw (sort_is h.1.2 h.1.3) (loaded a _ (is_record (bare p.types e.of)) (s.place v.1.0 h.0 n.1.0))
    value_by (exprs.Decay a) i v w n =
        let h = one tree.Decay a w in
        stand g _ _ (⊎_elim (λ d. ap is_tagged d.3) (λ d. ap is_tagged d.1) h.1)
        ((at (exprs.Decay a) i 0 a refl).place v.1.0 h.0 n.1.0)
    value_by (exprs.Address a) i v w n =
        let h = one tree.Address a w in
        stand g _ _ (ap is_tagged h.1.1) ((at (exprs.Address a) i 0 a refl).place v.1.0 h.0 n.1.0)
    value_by (exprs.Compare op a b) i v w n =
        let h = two (tree.Compare op) a b w in
        let u = ⊎_elim {C = (is_tagged (type_of (x a)) ≡ false) × (is_tagged (type_of (x b)) ≡ false)}
        (λ d. (integer_untagged _ d.0, ap is_tagged (sym d.1) ∙ integer_untagged _ d.0))
        (λ d. (pointer_untagged _ d.0, pointer_untagged _ d.1)) h.2.1 in
        stand g _ _ (ap is_tagged h.2.0) (
          val a (at (exprs.Compare op a b) i 0 a refl) u.0 v.1.0 h.0 n.1.0,
          val b (at (exprs.Compare op a b) i 1 b refl) u.1 v.1.1.0 h.1 n.1.1.0,
        )
    value_by (exprs.And a b) i v w n =
        let h = two tree.And a b w in
        stand g _ _ (ap is_tagged h.2.0) (
          val a (at (exprs.And a b) i 0 a refl) (untagged _ h.2.1) v.1.0 h.0 n.1.0,
          val b (at (exprs.And a b) i 1 b refl) (untagged _ h.2.2) v.1.1.0 h.1 n.1.1.0,
        )
    value_by (exprs.Or a b) i v w n =
        let h = two tree.Or a b w in
        stand g _ _ (ap is_tagged h.2.0) (
          val a (at (exprs.Or a b) i 0 a refl) (untagged _ h.2.1) v.1.0 h.0 n.1.0,
          val b (at (exprs.Or a b) i 1 b refl) (untagged _ h.2.2) v.1.1.0 h.1 n.1.1.0,
        )
    value_by (exprs.Comma a b) i v w n =
        let h = two tree.Comma a b w in
        let l = either_from g _ (tr a) ((at (exprs.Comma a b) i 0 a refl).value v.1.0 h.0 n.1.0) in
        both g (is_tagged t) (tr a) (tr b) l
        (subst (λ z. Stands g z (tr b)) (sym (ap is_tagged h.2))
        ((at (exprs.Comma a b) i 1 b refl).value v.1.1.0 h.1 n.1.1.0))
    value_by (exprs.Unary op a) i v w n =
        let h = one (tree.Unary op) a w in
        let u = unary_untagged op (type_of (x a)) t h.1 in
        stand g _ _ u.0 (sign_value g e.pos _ (tr a) op
        (val a (at (exprs.Unary op a) i 0 a refl) u.1 v.1.0 h.0 n.1.0))
    value_by (exprs.Difference a b) i v w n =
        let h = two tree.Difference a b w in
        stand g _ _ (ap is_tagged h.2.2) (
          tt,
          val a (at (exprs.Difference a b) i 0 a refl) (ap is_tagged h.2.0.1) v.1.0 h.0 n.1.0,
          val b (at (exprs.Difference a b) i 1 b refl) (ap is_tagged h.2.1.1) v.1.1.0 h.1 n.1.1.0,
        )
    value_by (exprs.Int op a b) i v w n =
        let h = two (tree.Arithmetic op) a b w in
        stand g _ _ (ap is_tagged h.2.0.2) (
          tt,
          val a (at (exprs.Int op a b) i 0 a refl) (ap is_tagged (h.2.1.0 ∙ h.2.0.2)) v.1.0 h.0 n.1.0,
          val b (at (exprs.Int op a b) i 1 b refl) (integer_untagged _ h.2.1.1) v.1.1.0 h.1 n.1.1.0,
        )
    value_by (exprs.Assign a b) i v w n =
        let h = two tree.Assign a b w in
        let s = sort_is h.2.3 h.2.4 in
        rw s (assign_stands g (is_record (bare p.types e.of)) e.pos _ _ _ (tr a) (tr b)
        ((at (exprs.Assign a b) i 0 a refl).place v.1.0 h.0 n.1.0)
        (subst (λ z. Stands g z (tr b)) (ap is_tagged h.2.2 ∙ s)
        ((at (exprs.Assign a b) i 1 b refl).value v.1.1.0 h.1 n.1.1.0)))
    value_by (exprs.Deref a) i v w n = absurd v.0
    value_by (exprs.Member a m) i v w n = absurd v.0
    value_by (exprs.Convert a) i v w n =
        let h = one tree.Convert a w in
        let s = at (exprs.Convert a) i 0 a refl in
        ⊎_elim (λ u. stand g _ _ (void_untagged t u) (convert_void g p vars e.pos _ (tr a) _ _ _
        (void_at p o e.of (o.typed k e there) u) (either_from g _ (tr a) (s.value v.1.0 h.0 n.1.0))))
        (λ u. let y = scalar_at p o e.of (o.typed k e there) u.0 in
        let z = scalar_kind a (less (exprs.Convert a) i 0 a refl) u.1 in
        stand g _ _ (untagged t u.0) (convert_value g p vars e.pos _ (tr a) _ _ _ z.0 y.kind z.1 y.is
        (val a s (untagged _ u.1) v.1.0 h.0 n.1.0))) h.1
    value_by (exprs.Capability op a b r) i v w n =
        let h = two (tree.Capability op r) a b w in
        stand g _ _ (ap is_tagged h.2.0.1) (
          (λ (z : r ≡ true). capability_kind b (less (exprs.Capability op a b r) i 1 b refl) h.2.0.0
              (⊎_elim (λ d. d) (λ d. absurd (false≢true (sym (v.0 z) ∙ d))) h.2.1.2 ∙ h.2.0.1)
              ∙ ap Capability
              (sym (ap is_signed_capability (capability_at p o e.of (o.typed k e there) h.2.0.0 h.2.0.1)))),
          val a (at (exprs.Capability op a b r) i 0 a refl) (ap is_tagged (h.2.1.0 ∙ h.2.0.1)) v.1.0 h.0 n.1.0,
          val b (at (exprs.Capability op a b r) i 1 b refl) (integer_untagged _ h.2.1.1) v.1.1.0 h.1 n.1.1.0,
        )
    value_by (exprs.Plus a b minus) i v w n =
        let h = two (tree.Plus minus) a b w in
        let u = ⊎_elim {C = (is_tagged (type_of (x a)) ≡ false) × (is_tagged (type_of (x b)) ≡ false)}
        (λ d. (ap is_tagged (d.0 ∙ h.2.0.1), integer_untagged _ d.1))
        (λ d. (integer_untagged _ d.1, ap is_tagged (d.2 ∙ h.2.0.1))) h.2.1 in
        let c = cheri_types.is_pointer (bare_type p vars a) in
        stand g _ _ (ap is_tagged h.2.0.1) (sum_value g e.pos _ _ minus _ _ (tr a) (tr b) c
        (val a (at (exprs.Plus a b minus) i 0 a refl) u.0 v.1.0 h.0 n.1.0)
        (val b (at (exprs.Plus a b minus) i 1 b refl) u.1 v.1.1.0 h.1 n.1.1.0))
    value_by (exprs.Conditional c a b) i v w n =
        let h = of_term F tree.Conditional _ t e.pos w in
        let l = of_terms F (x c) _ h.0 in
        let m = of_terms F (x a) _ l.1 in
        let r = of_terms F (x b) no_terms m.1 in
        either_branch g (is_tagged t) e.pos _ (tr c) (tr a) (tr b)
        (val c (at (exprs.Conditional c a b) i 0 c refl) (untagged _ h.1.0) v.1.0 l.0 n.1.0)
        (subst (λ z. Stands g z (tr a)) (ap is_tagged h.1.1)
        ((at (exprs.Conditional c a b) i 1 a refl).value v.1.1.0 m.0 n.1.1.0))
        (subst (λ z. Stands g z (tr b)) (ap is_tagged h.1.2)
        ((at (exprs.Conditional c a b) i 2 b refl).value v.1.1.1.0 r.0 n.1.1.1.0))
    value_by (exprs.Compound op a b c) i v w n =
        let h = two (tree.Compound op (type_in p c)) a b w in
        stand g _ _ (⊎_elim (λ d. ap is_tagged d.0.1) (λ d. integer_untagged t d.0) h.2.2) (
          (at (exprs.Compound op a b c) i 0 a refl).place v.1.0 h.0 n.1.0,
          val b (at (exprs.Compound op a b c) i 1 b refl)
              (⊎_elim (λ d. integer_untagged _ d.2) (λ d. integer_untagged _ d.1.1) h.2.2) v.1.1.0 h.1 n.1.1.0,
        )
    value_by (exprs.Step a adds front) i v w n =
        let h = one (tree.Step adds front) a w in
        stand g _ _ (⊎_elim (λ d. integer_untagged t d) (λ d. ap is_tagged d.1) h.1.2)
        ((at (exprs.Step a adds front) i 0 a refl).place v.1.0 h.0 n.1.0, tt)
    value_by (exprs.Call c xs) i v w n =
        let h = of_term F tree.Call _ t e.pos w in
        let m = of_terms F (x c) (terms (map x xs)) h.0 in
        stand g _ _ (plain_untagged t v.0.0) (
          val c (at (exprs.Call c xs) i 0 c refl) (ap is_tagged h.1.2) v.1.0 m.0 n.1.0,
          arguments_by xs (λ j a y. at (exprs.Call c xs) i (suc j) a y)
              (scalars_untagged xs v.0.1.1) v.1.1 m.1 n.1.1,
        )
    value_by (exprs.Library c xs) i v w n =
        let h = of_term F (tree.Library c) _ t e.pos w in
        stand g _ _ (plain_untagged t v.0) (arguments_by xs (λ j a y. at (exprs.Library c xs) i j a y)
        (asked_untagged h.1.0.takes _ (service_asks services services_ask c h.1.0 h.1.1) h.1.2) v.1 h.0 n.1)

    place_by : (kd : ExprKind) → e.kind ≡ kd → IsPlace (term_of kd) → TermFits F (term_of kd) →
        TermScoped js (term_of kd) → Places g (tree_of kd)
    place_by (exprs.Literal c) i v w n = tt
    place_by (exprs.Var y) i v w n = variable_place g p vars js spots e.pos y n.0
    place_by (exprs.Global c) i v w n = tt
    place_by (exprs.Fun c) i v w n = tt
    place_by (exprs.Deref a) i v w n =
        let h = one tree.Deref a w in
        val a (at (exprs.Deref a) i 0 a refl) (ap is_tagged h.1.0) v.0 h.0 n.1.0
    place_by (exprs.Member a m) i v w n =
        let h = one (tree.Member m) a w in
        let s = at (exprs.Member a m) i 0 a refl in
        ⊎_elim (λ d. s.place d h.0 n.1.0) (λ d. pla a s (member_tagged F (x a) h.1.0 d h.0 h.1.3) d h.0 n.1.0) v
    place_by kd i v w n = absurd v

    node_stands : St k
    node_stands =
        let i = expression_is p o k e there in
        let j = expression_node p vars (ordered_of p o) k e there in
        record {
          value = λ v w n. subst (λ z. Stands g (is_tagged (type_of (x k))) z) (sym j)
              (subst (λ z. Stands g (is_tagged z) (tree_of e.kind)) (sym (expression_type p o k e there))
              (value_by e.kind refl (subst IsValue i v) (subst (TermFits F) i w) (subst (TermScoped js) i n)));
          place = λ v w n. subst (Places g) (sym j)
              (place_by e.kind refl (subst IsPlace i v) (subst (TermFits F) i w) (subst (TermScoped js) i n));
        }

  stands_below : (n k : ℕ) → k < n → (e : Expr) → slice_get p.exprs k ≡ Some e → St k
  stands_below zero k lt e h = absurd (omega arith)
  stands_below (suc n) k lt e h =
      let l = slice_get_within p.exprs k e h in
      node_stands k e h (λ a m. stands_below n a (omega arith) (get_or p.exprs a e)
      (slice_get-get_or p.exprs a e (omega arith)))

pub trees_stand : (p : Typed) → Sound p → TreesStand p
trees_stand p h vars gives js g spots k e there =
    let t = h.types.types in
    stands_below p t.ordered t.program t.shows vars gives js g spots (suc k) k (omega arith) e there
