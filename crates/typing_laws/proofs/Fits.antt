-- Terms and statements of the state at the end fit the typed program.
use Rattle.std.proofs.Common.{◌≡◌, ℕ, zero, ◌≤◌, Bool, true, false, List, length, Some, refl, sym, ap, subst, ◌∙◌, inl}
use Rattle.std.proofs.Common.{inr, ⊎_elim, arith}
use Rattle.std.specs.Prelude.{slice_get}
use Rattle.std.proofs.lemmas.Bool.{false≢true}
use Rattle.std.proofs.lemmas.Option.{same_Some}
use Rattle.c_tree.specs.declared.typed.GlobalDef.{GlobalDef}
use Rattle.c_tree.specs.declared.typed.Literal.{Literal}
use Rattle.c_tree.specs.declared.typed.VarDef.{VarDef}
use Rattle.c_tree.specs.declared.typed.FunDef.{FunDef}
use Rattle.c_tree.specs.declared.typed.Typed.{Typed}
use Rattle.c_tree.specs.Layout.{Extent, size_limit}
use Rattle.c_tree.specs.Types.{Ty, Void, Int, Cap, Pointer, Array, Tagged, Function, Const, char, bare, is_scalar}
use Rattle.c_tree.specs.Types.{is_tagged, is_void, compatible}
use Rattle.c_tree.specs.Terms as tree
use Rattle.c_tree.specs.Terms.{Shape, Term, Terms, term, no_terms, with_term, type_of, Text, Form, Action, Actions}
use Rattle.c_tree.specs.Terms.{action, no_actions, with_action}
use Rattle.c_tree.specs.Scopes.{StaticState, LocalState, RoutineState, State, type_extent}
use Rattle.c_tree.specs.Conversions.{designates}
use Rattle.c_tree.specs.Expressions.{as_qualified}
use Rattle.c_tree.specs.Views.{IsOrdered, Shows}
use Rattle.c_tree.specs.Programs.{Numbers, shape_with, term_with, terms_with, action_with, actions_with, program_of}
use Rattle.c_tree.specs.WellTyped.{holds, type_in, HasExtent, Frame, ShapeFits, TermFits, TermsFit, Inside, inside_of}
use Rattle.c_tree.specs.WellTyped.{FormFits, ActionFits, ActionsFit, InitFits, AreVars, IsTest, TestsFit, count_of}
use Rattle.typing_laws.proofs.Agreeing.{refines, refined_compatible}
use Rattle.typing_laws.proofs.Facts.{Complete, Sized, IsValue, scalar, nothing, tagged, PointsTo, IsUsed, ShapeOk}
use Rattle.typing_laws.proofs.Facts.{TermOk}
use Rattle.typing_laws.proofs.Facts.{TermsOk, is_named, Inv}
use Rattle.typing_laws.proofs.Scalars.{complete_not_void}
use Rattle.typing_laws.proofs.Acts.{InitOk, AreLocals, FormOk, ActionOk, ActionsOk}
use Rattle.typing_laws.proofs.Shown.{There, has_extent, sized_there, read_sized, pointer_there, bare_there}
use Rattle.typing_laws.proofs.Shown.{points_there}
use Rattle.typing_laws.proofs.Shown.{MemberThere, member_there, TermThere, TermsThere, ActionThere, ActionsThere}
use Rattle.typing_laws.proofs.Numbered.{type_with, place_with, designates_with, modifiable_with, arguments_with}
use Rattle.typing_laws.proofs.Numbered.{asked_with}
use Rattle.typing_laws.proofs.Numbered.{given_with, count_with}

void_is_refined : (u : Ty) → refines Void u ≡ true → u ≡ Void
void_is_refined Void e = refl
void_is_refined u e = absurd (false≢true e)

void_refined : (t u : Ty) → refines t u ≡ true → bare t ≡ Void → bare u ≡ Void
void_refined Void u e b = ap bare (void_is_refined u e)
void_refined (Const t) (Const u) e b = void_is_refined u (ap (λ t. refines t u) (sym b) ∙ e)
void_refined (Const t) u e b = absurd (false≢true e)
void_refined (Int k n) u e b = absurd cc
void_refined (Cap c) u e b = absurd cc
void_refined (Pointer t) u e b = absurd cc
void_refined (Array t n) u e b = absurd cc
void_refined (Tagged n) u e b = absurd cc
void_refined (Function r ps) u e b = absurd cc

-- what the names of a function's terms name in the program
pub record Linked (p : Typed) (s : State) (ls : List LocalState) (n : Numbers) (vs : List VarDef) : Type 0 where
  pub vars : (k : ℕ) (v : LocalState) → slice_get ls k ≡ Some v →
      (w : VarDef) × (slice_get vs k ≡ Some w) × (type_in p w.of ≡ v.of) × There p v.of × Sized s.tags v.of
  pub simple : (k : ℕ) (w : VarDef) → slice_get vs k ≡ Some w → w.simple ≡ true →
      holds (is_scalar (bare (type_in p w.of)))
  pub globals : (k : ℕ) (g : StaticState) → slice_get s.statics k ≡ Some g → IsUsed g.used →
      (h : GlobalDef) × (slice_get p.globals (n.0 k) ≡ Some h) × (type_in p h.of ≡ g.of)
  pub funs : (k : ℕ) (g : RoutineState) → slice_get s.routines k ≡ Some g → IsUsed g.used →
      (h : FunDef) × (slice_get p.funs (n.1 k) ≡ Some h) × (type_in p h.of ≡ g.of)
  pub literals : (k : ℕ) (x : Text) → slice_get s.texts k ≡ Some x →
      (l : Literal) × (slice_get p.literals k ≡ Some l) × (length l.bytes ≡ length x.bytes)
  pub statics : (k : ℕ) (g : StaticState) → slice_get s.statics k ≡ Some g → Complete s.tags g.of
  pub count : length vs ≡ length ls

module _ (p : Typed) (s : State) (o : IsOrdered p) (sh : Shows p (program_of s)) (i : Inv true s) (ls : List LocalState)
    (n : Numbers) (vs : List VarDef) (gives : Ty) (lk : Linked p s ls n vs) where
  abbrev at : State
  at = record s { locals = ls }

  abbrev frame : Frame
  frame = record { program = p; vars = vs; gives = gives }

  -- a name is of a complete type in the end
  named_not_void : (x : Term) → TermOk true at x → is_named x ≡ true → bare (type_of x) ≡ Void → ⊥
  named_not_void (term (tree.Var k) no_terms t q) h e b =
      let l = h.1 in let w = lk.vars k l.0 l.1 in
      complete_not_void s.tags l.0.of (w.4.0, w.4.1) (void_refined t l.0.of l.2 b)
  named_not_void (term (tree.Global k) no_terms t q) h e b =
      let l = h.1 in complete_not_void s.tags l.0.of (lk.statics k l.0 l.1) (void_refined t l.0.of l.2 b)
  named_not_void (term (tree.Var k) (with_term y ys) t q) h e b = h.1
  named_not_void (term (tree.Global k) (with_term y ys) t q) h e b = h.1
  named_not_void x h e b = false≢true e

  loaded_fits : (a : Term) (t : Ty) → TermOk true at a → There p t → holds (designates a) → t ≡ bare (type_of a) →
      (t ≡ Void → holds (is_named a)) → IsValue s.tags t →
      ShapeFits frame tree.Load (with_term (term_with n a) no_terms) t
  loaded_fits a t h th d e f (scalar c) = (
    designates_with n a ∙ d,
    e ∙ ap bare (sym (type_with n a)),
    inl c,
    sized_there p s o sh i t th (Rattle.typing_laws.proofs.Shown.scalar_sized p s o sh i t c),
  )
  loaded_fits a t h th d e f (nothing v) = absurd (named_not_void a h (f v) (sym e ∙ v))
  loaded_fits a t h th d e f (tagged k v c) =
      let q : is_tagged t ≡ true = ap is_tagged v in (
        designates_with n a ∙ d,
        e ∙ ap bare (sym (type_with n a)),
        inr q,
        sized_there p s o sh i t th (read_sized p s o sh i t (inr q) c),
      )

  member_fits : (a : Term) (k : ℕ) (t u : Ty) → type_of a ≡ u → There p u →
      Rattle.typing_laws.proofs.Facts.MemberOk s.tags u k t → ShapeFits frame (tree.Member k) (with_term a no_terms) t
  member_fits a k t u e th h =
      let tag = h.0 in
      let tt' : There p (Tagged tag) = subst (There p) h.4 (bare_there p s o sh i u th) in
      let m = member_there p s o sh i tag h.1 h.2 k h.3 tt' h.5 h.6 h.7 in
      let x = (i.tags tag h.1 h.5).known h.2 h.6 in
      let c : Complete s.tags (Tagged tag) = (x.1, ap Rattle.c_tree.specs.Scopes.tag_extent h.5 ∙ x.2) in (
        tag,
        m.members,
        m.member,
        ap bare e ∙ h.4,
        m.has,
        m.there,
        h.8 ∙ ap (as_qualified u) (sym m.type)
            ∙ ap (λ u. as_qualified u (type_in p m.member.of)) (sym e),
        sized_there p s o sh i (Tagged tag) tt' (Rattle.typing_laws.proofs.Shown.tagged_sized p s o sh i tag c),
      )

  shape_fits : (m : Shape) (xs : Terms) (t : Ty) → TermsOk true at xs → ShapeOk true at m xs t →
      TermsThere p (terms_with n xs) → There p t → ShapeFits frame (shape_with n m) (terms_with n xs) t
  shape_fits (tree.Constant v) no_terms t ts h th here = (h.0, h.1)
  shape_fits (tree.Literal k) no_terms t ts h th here =
      let l = lk.literals k h.3.0 h.3.1 in (l.0, l.1, h.1 ∙ ap (Array char) (h.3.2 ∙ sym l.2))
  shape_fits (tree.Var k) no_terms t ts h th here =
      let w = lk.vars k h.0 h.1 in (w.0, w.1, ap (compatible t) w.2 ∙ refined_compatible t h.0.of h.2)
  shape_fits (tree.Global k) no_terms t ts h th here =
      let w = lk.globals k h.0 h.1 h.3 in (w.0, w.1, ap (compatible t) w.2 ∙ refined_compatible t h.0.of h.2)
  shape_fits (tree.Fun k) no_terms t ts h th here =
      let w = lk.funs k h.0 h.1 h.3 in (w.0, w.1, ap (compatible t) w.2 ∙ refined_compatible t h.0.of h.2)
  shape_fits tree.Load (with_term a no_terms) t ts h th here = loaded_fits a t ts.0 here h.0 h.1 h.3 h.2
  shape_fits tree.Decay (with_term (term b ys u q) no_terms) t ts h th here = h
  shape_fits tree.Deref (with_term (term b ys u q) no_terms) t ts h th here =
      (h.0, ⊎_elim (λ c. inl (sized_there p s o sh i t here c)) (λ f. inr f) h.1)
  shape_fits (tree.Member k) (with_term (term b ys u q) no_terms) t ts h th here =
      member_fits (term_with n (term b ys u q)) k t u refl th.0.0 h
  shape_fits tree.Address (with_term (term b ys u q) no_terms) t ts h th here =
      (⊎_elim (λ e. inl (place_with n (term b ys u q) ∙ e)) (λ f. inr f) h.0, h.1)
  shape_fits tree.Convert (with_term (term b ys u q) no_terms) t ts h th here = h.0
  shape_fits (tree.Unary c) (with_term (term b ys u q) no_terms) t ts h th here = h
  shape_fits (tree.Step adds in_front) (with_term (term b ys u q) no_terms) t ts h th here = (
    modifiable_with n (term b ys u q) ∙ h.0,
    h.1,
    ⊎_elim (λ e. inl e) (λ c. inr (points_there p s o sh i t here c)) h.2,
  )
  shape_fits (tree.Arithmetic c) (with_term (term b ys u q) (with_term (term d zs v r) no_terms)) t ts h th here = h
  shape_fits (tree.Capability c e) (with_term (term b ys u q) (with_term (term d zs v r) no_terms)) t ts h th here = h
  shape_fits (tree.Plus minus) (with_term (term b ys u q) (with_term (term d zs v r) no_terms)) t ts h th here =
      (points_there p s o sh i t here h.0, h.1)
  shape_fits tree.Difference (with_term (term b ys u q) (with_term (term d zs v r) no_terms)) t ts h th here =
      (points_there p s o sh i u th.0.0 h.0, points_there p s o sh i v th.1.0.0 h.1, h.2)
  shape_fits (tree.Compare c) (with_term (term b ys u q) (with_term (term d zs v r) no_terms)) t ts h th here = h
  shape_fits tree.And (with_term (term b ys u q) (with_term (term d zs v r) no_terms)) t ts h th here = h
  shape_fits tree.Or (with_term (term b ys u q) (with_term (term d zs v r) no_terms)) t ts h th here = h
  shape_fits tree.Comma (with_term (term b ys u q) (with_term (term d zs v r) no_terms)) t ts h th here = h
  shape_fits tree.Assign (with_term (term b ys u q) (with_term (term d zs v r) no_terms)) t ts h th here = (
    modifiable_with n (term b ys u q) ∙ h.0,
    h.1,
    h.2,
    h.3,
    sized_there p s o sh i t here (read_sized p s o sh i t h.3 h.4),
  )
  shape_fits (tree.Compound c of) (with_term (term b ys u q) (with_term (term d zs v r) no_terms)) t ts h th here = (
    modifiable_with n (term b ys u q) ∙ h.0,
    h.1,
    ⊎_elim (λ z. inl (points_there p s o sh i t here z.0, z.1, z.2)) (λ z. inr z) h.2,
  )
  shape_fits tree.Conditional (with_term (term b ys u q)
      (with_term (term d zs v r) (with_term (term e ws w z) no_terms))) t ts h th here = h
  shape_fits tree.Call (with_term (term b ys u q) xs) t ts h th here = (h.0, h.1, h.2, arguments_with n h.1 xs h.3, h.4)
  shape_fits (tree.Library k) xs t ts h th here =
      (h.0, h.1, asked_with n h.0.takes xs h.2, h.3 ∙ sym (given_with n h.0.gives xs))
  shape_fits m xs t ts h th here = absurd h

  mutual
    unfolding TermFits TermsFit

    pub term_fits : (x : Term) → TermOk true at x → TermThere p (term_with n x) → TermFits frame (term_with n x)
    term_fits (term m xs t q) h th = (terms_fit xs h.0 th.1, shape_fits m xs t h.0 h.1 th.1 th.0)

    pub terms_fit : (xs : Terms) → TermsOk true at xs → TermsThere p (terms_with n xs) →
        TermsFit frame (terms_with n xs)
    terms_fit no_terms h th = tt
    terms_fit (with_term x xs) h th = (term_fits x h.0 th.0, terms_fit xs h.1 th.1)

  -- ---- statements

  module _ (given : Ty) (r : refines given gives ≡ true) where
    void_given : is_void given ≡ true → is_void gives ≡ true
    void_given e = by_void given gives r e
      where
        by_void : (t u : Ty) → refines t u ≡ true → is_void t ≡ true → is_void u ≡ true
        by_void Void u e f = ap is_void (void_is_refined u e)
        by_void t u e f = absurd (false≢true f)

    init_fits : (k a : ℕ) (u : Ty) → There p u → InitOk at k a u → InitFits frame k a u
    init_fits k a u th h =
        let w = lk.vars k h.0 h.3 in
        let same : w.4.0 ≡ h.1 = same_Some w.4.0 h.1 (sym w.4.1 ∙ h.4) in
        let whole : HasExtent p h.0.of h.1 =
        has_extent p s o sh i h.0.of w.3 h.1 h.4 (subst (λ (x : Extent). x.size ≤ size_limit) same w.4.2) in
        let b = subst (λ (x : Extent). x.size ≤ size_limit) same w.4.2 in
        let small : h.2.size ≤ size_limit = omega (arith, h.6, b) in (
          w.0,
          h.1,
          h.2,
          w.1,
          subst (λ t. HasExtent p t h.1) (sym w.2) whole,
          has_extent p s o sh i u th h.2 h.5 small,
          h.6,
          λ q. let r = h.7 (ap (λ t. is_scalar (bare t)) (sym w.2) ∙ lk.simple k w.0 w.1 q) in
              (r.0, r.1 ∙ ap bare (sym w.2)),
        )

    vars_fit : (ks : List ℕ) → AreLocals at ks → AreVars frame ks
    vars_fit ks h j k e = let l = h j k e in omega (arith, l, lk.count)

    test_with : (xs : Terms) → IsTest xs → IsTest (terms_with n xs)
    test_with (with_term (term b ys u q) no_terms) h = h
    test_with no_terms h = absurd h
    test_with (with_term x (with_term y ys)) h = absurd h

    tests_with : (a b : Bool) (xs : Terms) → TestsFit a b xs → TestsFit a b (terms_with n xs)
    tests_with false false no_terms h = tt
    tests_with false true (with_term (term c ys u q) no_terms) h = tt
    tests_with true false (with_term (term c ys u q) no_terms) h = h
    tests_with true true (with_term (term c ys u q) (with_term (term d zs v w) no_terms)) h = h
    tests_with a b xs h = absurd h

    form_fits : (j : Inside) (x : Form) (xs : Terms) (k : ℕ) → TermsThere p (terms_with n xs) →
        FormOk at given j x xs k → FormFits frame j x (terms_with n xs) k
    form_fits j tree.Evaluate (with_term (term b ys u q) no_terms) zero th h = tt
    form_fits j (tree.Init k a) (with_term (term b ys u q) no_terms) zero th h = init_fits k a u th.0.0 h
    form_fits j (tree.Block vars) no_terms k th h = vars_fit vars h
    form_fits j tree.If xs k th h = (test_with xs h.0, h.1)
    form_fits j tree.While xs k th h = (test_with xs h.0, h.1)
    form_fits j tree.Do xs k th h = (test_with xs h.0, h.1)
    form_fits j (tree.For vars m a b) xs k th h = (vars_fit vars h.0, tests_with a b xs h.1, h.2)
    form_fits j (tree.Switch vars labels) (with_term (term b ys u q) no_terms) k th h =
        (vars_fit vars h.0, h.1, h.2, h.3)
    form_fits j tree.Break no_terms zero th h = h
    form_fits j tree.Continue no_terms zero th h = h
    form_fits j tree.Return no_terms zero th h = void_given h
    form_fits j tree.Return (with_term (term b ys u q) no_terms) zero th h =
        ap (λ t. compatible t gives) h ∙ refined_compatible given gives r
    form_fits j tree.Empty no_terms zero th h = tt
    form_fits j x xs k th h = absurd h

    mutual
      unfolding ActionFits ActionsFit

      pub action_fits : (j : Inside) (x : Action) → ActionOk at given j x → ActionThere p (action_with n x) →
          ActionFits frame j (action_with n x)
      action_fits j (action x xs ys q) h th = (
        terms_fit xs h.0 th.0,
        subst (FormFits frame j x (terms_with n xs)) (sym (count_with n ys))
            (form_fits j x xs (count_of ys) th.0 h.1),
        actions_fit (inside_of x j) ys h.2 th.1,
      )

      pub actions_fit : (j : Inside) (xs : Actions) → ActionsOk at given j xs → ActionsThere p (actions_with n xs) →
          ActionsFit frame j (actions_with n xs)
      actions_fit j no_actions h th = tt
      actions_fit j (with_action x xs) h th = (action_fits j x h.0 th.0, actions_fit j xs h.1 th.1)
