-- Each expression and each statement of a typed program is in the body of a function.
use Rattle.std.proofs.Common.{◌≡◌, ℕ, zero, suc, ◌+◌, ◌<◌, ◌≤◌, List, [], ◌∷◌, ◌++◌, length, map, Some, refl, ap, subst}
use Rattle.std.proofs.Common.{arith, inl, inr, ◌⊎◌, ⊎_elim, Bool, true, false, if◌then◌else◌}
use Rattle.std.specs.Prelude.{slice_get, flat_map, ◌==◌}
use Rattle.std.proofs.lemmas.Bool.{eqb-true}
use Rattle.std.proofs.lemmas.Option.{same_Some, slice_get_within}
use Rattle.std.proofs.lemmas.List.Sums.{sum_by-append, sum_by-cons}
use Rattle.ck_base.specs.declared.positions.Pos.{Pos}
use Rattle.c_tree.specs.Terms.{Shape, Term, Terms, term, terms, Form, Action, Actions, action, actions}
use Rattle.c_tree.specs.Types.{Ty, bare}
use Rattle.c_tree.specs.Typing.{Sound}
use Rattle.c_tree.specs.Views.{types_of, terms_of, term_at, actions_of, action_at, operands, values, parts, times_in}
use Rattle.c_tree.specs.Views.{IsOrdered}
use Rattle.c_tree.specs.WellTyped.{Frame, Inside, TermFits, TermsFit, ActionFits, ActionsFit, inside_of, outside}
use Rattle.c_tree.specs.WellTyped.{WellTyped}
use Rattle.c_tree.specs.declared.typed.Expr.{Expr}
use Rattle.c_tree.specs.declared.typed.ExprKind.{ExprKind}
use Rattle.c_tree.specs.declared.typed.ExprKind.TheVariants as exprs
use Rattle.c_tree.specs.declared.typed.FunDef.{FunDef}
use Rattle.c_tree.specs.declared.typed.Stmt.{Stmt}
use Rattle.c_tree.specs.declared.typed.Typed.{Typed}
use Rattle.typing_laws.proofs.Sound.{well_typed}
use Rattle.typing_laws.specs.Valued.{IsValue, IsPlace, AreAsked, ActionValued, ActionsValued, AreValues}
use Rattle.typing_laws.proofs.values.Whole.{valued}
use Rattle.value_trees.specs.Nodes.{IsUsed, AreUsed}
use Rattle.value_trees.proofs.Nodes.{shape_of, expression_made, form_of, statement_made}

-- ---- what stands in a list

record Stands (ks : List ℕ) (k : ℕ) : Type 0 where
  at : ℕ
  is : slice_get ks at ≡ Some k

pub times_append : (k : ℕ) (xs ys : List ℕ) → times_in k (xs ++ ys) ≡ times_in k xs + times_in k ys
times_append k xs ys = sum_by-append (λ j. if j == k then 1 else 0) xs ys

abbrev pub counted : Bool → ℕ
counted b = if b then 1 else 0

pub times_cons : (k j : ℕ) (ks : List ℕ) → times_in k (j ∷ ks) ≡ counted (j == k) + times_in k ks
times_cons k j ks = sum_by-cons (λ j. if j == k then 1 else 0) j ks

stands : (k : ℕ) (ks : List ℕ) → 1 ≤ times_in k ks → Stands ks k
stands k [] h = absurd (omega (arith, h))
stands k (j ∷ ks) h = by (j == k) refl (stands k ks)
  where
    by : (b : Bool) → (j == k) ≡ b → (1 ≤ times_in k ks → Stands ks k) → Stands (j ∷ ks) k
    by true e g = record { at = 0; is = ap Some (eqb-true j k e) }
    by false e g =
        let z : counted (j == k) ≡ 0 = ap counted e in
        let r = g (omega (arith, h, z, times_cons k j ks)) in record { at = suc r.at; is = r.is }

-- it stands in one of the lists
record StandsIn {X : Type 0} (f : X → List ℕ) (xs : List X) (k : ℕ) : Type 0 where
  at : ℕ
  item : X
  there : slice_get xs at ≡ Some item
  stands : Stands (f item) k

stands_in : {X : Type 0} (f : X → List ℕ) (xs : List X) (k : ℕ) → 1 ≤ times_in k (flat_map f xs) → StandsIn f xs k
stands_in f [] k h = absurd (omega (arith, h))
stands_in f (x ∷ xs) k h = by (times_in k (f x)) refl (stands_in f xs k)
  where
    by : (n : ℕ) → times_in k (f x) ≡ n → (1 ≤ times_in k (flat_map f xs) → StandsIn f xs k) → StandsIn f (x ∷ xs) k
    by zero e g =
        let z = times_append k (f x) (flat_map f xs) in
        let r = g (omega (arith, h, z, e)) in
        record { at = suc r.at; item = r.item; there = r.there; stands = r.stands }
    by (suc n) e g = record { at = 0; item = x; there = refl; stands = stands k (f x) (omega (arith, e)) }

one_of : (k : ℕ) (xs ys : List ℕ) → times_in k (xs ++ ys) ≡ 1 → (1 ≤ times_in k xs) ⊎ (1 ≤ times_in k ys)
one_of k xs ys h = by (times_in k xs) refl
  where
    by : (n : ℕ) → times_in k xs ≡ n → (1 ≤ times_in k xs) ⊎ (1 ≤ times_in k ys)
    by zero e = let z = times_append k xs ys in inr (omega (arith, h, z, e))
    by (suc n) e = inl (omega (arith, e))

-- ---- the operands and parts of what fits

module _ (f : Frame) where
  term_fits : (x : ℕ → Term) (ks : List ℕ) (j a : ℕ) → TermsFit f (terms (map x ks)) → slice_get ks j ≡ Some a →
      TermFits f (x a)
  unfolding TermFits
  term_fits x [] j a h e = absurd cc
  term_fits x (k ∷ ks) zero a h e = subst (λ k. TermFits f (x k)) (same_Some k a e) h.0
  term_fits x (k ∷ ks) (suc j) a h e = term_fits x ks j a h.1 e

  action_fits : (i : Inside) (x : ℕ → Action) (ks : List ℕ) (j a : ℕ) → ActionsFit f i (actions (map x ks)) →
      slice_get ks j ≡ Some a → ActionFits f i (x a)
  unfolding ActionFits
  action_fits i x [] j a h e = absurd cc
  action_fits i x (k ∷ ks) zero a h e = subst (λ k. ActionFits f i (x k)) (same_Some k a e) h.0
  action_fits i x (k ∷ ks) (suc j) a h e = action_fits i x ks j a h.1 e

  of_term : (n : Shape) (xs : Terms) (t : Ty) (q : Pos) → TermFits f (term n xs t q) → TermsFit f xs
  unfolding TermFits
  of_term n xs t q h = h.0

  of_action : (i : Inside) (n : Form) (xs : Terms) (ys : Actions) (q : Pos) → ActionFits f i (action n xs ys q) →
      TermsFit f xs × ActionsFit f (inside_of n i) ys
  unfolding ActionFits
  of_action i n xs ys q h = (h.0, h.2)

action_valued : (x : ℕ → Action) (ks : List ℕ) (j a : ℕ) → ActionsValued (actions (map x ks)) →
    slice_get ks j ≡ Some a → ActionValued (x a)
action_valued x [] j a h e = absurd cc
action_valued x (k ∷ ks) zero a h e = subst (λ k. ActionValued (x k)) (same_Some k a e) h.0
action_valued x (k ∷ ks) (suc j) a h e = action_valued x ks j a h.1 e

abbrev Either : Term → Type 0
Either x = IsValue x ⊎ IsPlace x

values_stand : (x : ℕ → Term) (ks : List ℕ) (j a : ℕ) → AreAsked false (terms (map x ks)) → slice_get ks j ≡ Some a →
    IsValue (x a)
values_stand x [] j a h e = absurd cc
values_stand x (k ∷ ks) zero a h e = subst (λ k. IsValue (x k)) (same_Some k a e) h.0
values_stand x (k ∷ ks) (suc j) a h e = values_stand x ks j a h.1 e

asked_stand : (x : ℕ → Term) (b : Bool) (ks : List ℕ) (j a : ℕ) → AreAsked b (terms (map x ks)) →
    slice_get ks j ≡ Some a → Either (x a)
asked_stand x false ks j a h e = inl (values_stand x ks j a h e)
asked_stand x true [] j a h e = absurd cc
asked_stand x true (k ∷ ks) zero a h e = subst (λ k. Either (x k)) (same_Some k a e) (inr h.0)
asked_stand x true (k ∷ ks) (suc j) a h e = inl (values_stand x ks j a h.1 e)

-- the operands of a place
place_stand : (ts : List Ty) (x : ℕ → Term) (kd : ExprKind) (t : Ty) (q : Pos) (j a : ℕ) →
    IsPlace (term (shape_of ts kd) (terms (map x (operands kd))) t q) → slice_get (operands kd) j ≡ Some a →
    Either (x a)
place_stand ts x (exprs.Literal k) t q j a h e = absurd cc
place_stand ts x (exprs.Var k) t q j a h e = absurd cc
place_stand ts x (exprs.Global k) t q j a h e = absurd cc
place_stand ts x (exprs.Fun k) t q j a h e = absurd cc
place_stand ts x (exprs.Deref b) t q j a h e = inl (values_stand x (b ∷ []) j a h e)
place_stand ts x (exprs.Member b m) t q zero a h e =
    subst (λ k. Either (x k)) (same_Some b a e) (⊎_elim (λ g. inr g) (λ g. inl g) h)
place_stand ts x (exprs.Member b m) t q (suc j) a h e = absurd cc
place_stand ts x kd t q j a h e = absurd h

-- ---- each is in a function's body

module _ (p : Typed) (w : WellTyped p) (v : AreValues p) where
  abbrev o : IsOrdered p
  o = w.ordered

  abbrev pub x : ℕ → Term
  x k = term_at (terms_of p) k

  abbrev pub st : ℕ → Action
  st k = action_at (actions_of p) k

  abbrev pub frame : FunDef → Ty → Frame
  frame d gives = record { program = p; vars = d.vars; gives = gives }

  -- a statement is in a function
  pub record IsPart (k : ℕ) : Type 0 where
    pub number : ℕ
    pub function : FunDef
    pub gives : Ty
    pub inside : Inside
    pub there : slice_get p.funs number ≡ Some function
    pub fits : ActionFits (frame function gives) inside (st k)
    pub valued : ActionValued (st k)

  part_of : (k m j : ℕ) (s : Stmt) → slice_get p.stmts m ≡ Some s → slice_get (parts s.kind) j ≡ Some k → IsPart m →
      IsPart k
  part_of k m j s h e up =
      let made = statement_made p o m s h in
      let fits = of_action (frame up.function up.gives) up.inside _ _ _ _
      (subst (ActionFits (frame up.function up.gives) up.inside) made up.fits) in
      let valued = subst ActionValued made up.valued in
      record {
        number = up.number;
        function = up.function;
        gives = up.gives;
        inside = inside_of (form_of s.kind) up.inside;
        there = up.there;
        fits = action_fits (frame up.function up.gives) _ st (parts s.kind) j k fits.1 e;
        valued = action_valued st (parts s.kind) j k valued.2 e;
      }

  body_part : (n : ℕ) (d : FunDef) → slice_get p.funs n ≡ Some d → IsPart d.body
  body_part n d h =
      let f = w.funs n d h in
      record {
        number = n;
        function = d;
        gives = bare f.result;
        inside = outside;
        there = h;
        fits = f.body;
        valued = v n d h;
      }

  body_stands : (fs : List FunDef) (j k : ℕ) → slice_get (map (λ (d : FunDef). d.body) fs) j ≡ Some k →
      (d : FunDef) × (slice_get fs j ≡ Some d) × (d.body ≡ k)
  body_stands [] j k e = absurd cc
  body_stands (d ∷ fs) zero k e = (d, refl, same_Some d.body k e)
  body_stands (d ∷ fs) (suc j) k e = body_stands fs j k e

  pub part_above : (n k : ℕ) → length p.stmts ≤ k + n → k < length p.stmts → IsPart k
  part_above zero k le lt = absurd (omega (arith, le, lt))
  part_above (suc n) k le lt =
      ⊎_elim (λ h. let r = stands_in (λ (s : Stmt). parts s.kind) p.stmts k h in
      let above = o.parts_before r.at r.stands.at k r.item r.there r.stands.is in
      part_of k r.at r.stands.at r.item r.there r.stands.is
      (part_above n r.at (omega (arith, le, above)) (slice_get_within p.stmts r.at r.item r.there)))
      (λ h. let r = stands k (map (λ (d : FunDef). d.body) p.funs) h in
      let d = body_stands p.funs r.at k r.is in subst IsPart d.2 (body_part r.at d.0 d.1))
      (one_of k (flat_map (λ (s : Stmt). parts s.kind) p.stmts) (map (λ (d : FunDef). d.body) p.funs)
      (o.statements_once k lt))

  used_by_statement : (k m j : ℕ) (s : Stmt) → slice_get p.stmts m ≡ Some s → slice_get (values s.kind) j ≡ Some k →
      IsUsed p k
  used_by_statement k m j s h e =
      let up = part_above (length p.stmts) m (omega arith) (slice_get_within p.stmts m s h) in
      let made = statement_made p o m s h in
      let fits = of_action (frame up.function up.gives) up.inside _ _ _ _
      (subst (ActionFits (frame up.function up.gives) up.inside) made up.fits) in
      let valued = subst ActionValued made up.valued in
      record {
        number = up.number;
        function = up.function;
        gives = up.gives;
        there = up.there;
        fits = term_fits (frame up.function up.gives) x (values s.kind) j k fits.0 e;
        stands = inl (values_stand x (values s.kind) j k valued.1 e);
      }

  used_by_expression : (k m j : ℕ) (e : Expr) → slice_get p.exprs m ≡ Some e → slice_get (operands e.kind) j ≡ Some k →
      IsUsed p m → IsUsed p k
  used_by_expression k m j e h i up =
      let made = expression_made p o m e h in
      let f = frame up.function up.gives in
      record {
        number = up.number;
        function = up.function;
        gives = up.gives;
        there = up.there;
        fits = term_fits f x (operands e.kind) j k (of_term f _ _ _ _ (subst (TermFits f) made up.fits)) i;
        stands = ⊎_elim (λ g. asked_stand x _ (operands e.kind) j k (subst IsValue made g).1 i)
            (λ g. place_stand (types_of p.types) x e.kind _ _ j k (subst IsPlace made g) i) up.stands;
      }

  used_above : (n k : ℕ) → length p.exprs ≤ k + n → k < length p.exprs → IsUsed p k
  used_above zero k le lt = absurd (omega (arith, le, lt))
  used_above (suc n) k le lt =
      ⊎_elim (λ h. let r = stands_in (λ (e : Expr). operands e.kind) p.exprs k h in
      let above = o.operands_before r.at r.stands.at k r.item r.there r.stands.is in
      used_by_expression k r.at r.stands.at r.item r.there r.stands.is
      (used_above n r.at (omega (arith, le, above)) (slice_get_within p.exprs r.at r.item r.there)))
      (λ h. let r = stands_in (λ (s : Stmt). values s.kind) p.stmts k h in
      used_by_statement k r.at r.stands.at r.item r.there r.stands.is)
      (one_of k (flat_map (λ (e : Expr). operands e.kind) p.exprs) (flat_map (λ (s : Stmt). values s.kind) p.stmts)
      (o.expressions_once k lt))

pub are_used : (p : Typed) → Sound p → AreUsed p
are_used p h k e there =
    used_above p (well_typed p h) (valued p h) (length p.exprs) k (omega arith) (slice_get_within p.exprs k e there)
