-- Statements and bodies of functions as they are run fit in the state of the program that is run (C11 6.8).
use Rattle.std.proofs.Common.{◌≡◌, ℕ, zero, suc, ◌+◌, Bool, true, false, List, [], ◌∷◌, ◌++◌, length, Some, refl, sym}
use Rattle.std.proofs.Common.{ap, subst, ◌∙◌, inl, ⊎_elim, arith}
use Rattle.std.specs.Prelude.{slice_get, map, option_map, if◌then◌else◌}
use Rattle.std.proofs.lemmas.Bool.{false≢true}
use Rattle.std.proofs.lemmas.Option.{slice_get-map, slice_get_within}
use Rattle.ck_base.specs.declared.positions.Pos.{Pos}
use Rattle.c_tree.specs.Types.{Ty, Void, Pointer, Tagged, Const, Tys, no_types, also, bare, is_integer, is_scalar}
use Rattle.c_tree.specs.Types.{is_void, is_tagged, promoted}
use Rattle.c_tree.specs.Terms as tree
use Rattle.c_tree.specs.Terms.{Term, Terms, term, no_terms, with_term, type_of, Form, Action, Actions, action}
use Rattle.c_tree.specs.Terms.{no_actions, with_action, Variable}
use Rattle.c_tree.specs.Scopes.{TagState, LocalState, State, type_extent}
use Rattle.c_tree.specs.WellTyped.{ArgumentsFit, Inside, inside_of, count_of, IsTest, TestsFit}
use Rattle.c_tree.specs.Passed.{Names, by_pointer, passed, hidden_in, all_hidden_in, ahead, hidden_of, first_hidden_of}
use Rattle.c_tree.specs.Passed.{Passing, passed_term, passed_terms, passed_form, behind, one_term, given_back}
use Rattle.c_tree.specs.Passed.{passed_action, passed_actions, param_copy, param_copies, opened}
use Rattle.typing_laws.proofs.Agreeing.{refines, refines_self}
use Rattle.typing_laws.proofs.Facts.{Complete, Sized, IsValue, scalar, tagged, LocalOk, TermOk, TermsOk, TagOk}
use Rattle.typing_laws.proofs.Facts.{AllTaken}
use Rattle.typing_laws.proofs.Growing.{complete_there}
use Rattle.typing_laws.proofs.Scalars.{branched}
use Rattle.typing_laws.proofs.Numbers.{extent_within_limit}
use Rattle.typing_laws.proofs.Acts.{WholeOk, InitOk, AreLocals, FormOk, ActionOk, ActionsOk, at_number}
use Rattle.typing_laws.proofs.Wholes.{with_locals, mapped_from}
use Rattle.typing_laws.proofs.Pointers.{passed_result}
use Rattle.typing_laws.proofs.PassingTypes.{bare_passed, scalar_passed, passed_integer, passed_records, extent_passed}
use Rattle.typing_laws.proofs.PassingTerms.{AllLike, test_like, value_bare, value_complete}
use Rattle.typing_laws.proofs.PassingExpressions.{run, term_like, terms_like, term_passes, terms_pass, local_there}
use Rattle.typing_laws.proofs.PassingExpressions.{assigned_ok, tagged_self}
use Rattle.typing_laws.proofs.PassedHidden.{Holds, ActionsHold, holds_action, holds_first, holds_last, holds_return}
use Rattle.typing_laws.proofs.PassedHidden.{CallsFit, AllCallsFit, ActionCalls, AllActionCalls}
use Rattle.typing_laws.proofs.PassedHidden as hidden
use Rattle.typing_laws.proofs.PassedParameters.{CopiesHold}
use Rattle.typing_laws.proofs.PassedStates.{as_local}

-- ---- what calls give and take by a pointer is complete

module _ (s : State) (tags : (k : ℕ) (t : TagState) → slice_get s.tags k ≡ Some t → TagOk s.tags k t) where
  pub pointer_sized : (t : Ty) → by_pointer t ≡ true → Complete s.tags t → Sized (passed_records s.tags) (bare t)
  pointer_sized (Tagged n) b c = (
    c.0,
    extent_passed s.tags (Tagged n) ∙ c.1,
    extent_within_limit s.tags tags (Tagged n) c.0 (complete_there s.tags n c) c.1,
  )
  pointer_sized (Const (Tagged n)) b c = (
    c.0,
    extent_passed s.tags (Tagged n) ∙ c.1,
    extent_within_limit s.tags tags (Tagged n) c.0 (complete_there s.tags n c) c.1,
  )
  pointer_sized t b c = absurd (false≢true b)

  value_sized : (t : Ty) → IsValue s.tags t → by_pointer t ≡ true → Sized (passed_records s.tags) (bare t)
  value_sized t v b = pointer_sized t b (value_complete s.tags t v (ap is_tagged (sym (value_bare s.tags t v)) ∙ b))

-- and what holds of what is complete holds of each
module _ (s : State) (C : Ty → Type 0)
    (taken : (t : Ty) → by_pointer t ≡ true → Complete s.tags t → C (bare t)) where
  arguments_taken : (ps : Tys) (xs : Terms) → ArgumentsFit ps xs → AllTaken s.tags ps → hidden.AllTaken C xs
  arguments_taken no_types no_terms f h = tt
  arguments_taken (also t ts) (with_term x xs) f h =
      (λ b. taken (type_of x) b (subst (Complete s.tags) (sym f.0) h.1), arguments_taken ts xs f.1 h.2)
  arguments_taken no_types (with_term x xs) f h = absurd f
  arguments_taken (also t ts) no_terms f h = absurd f

  value_taken : (t : Ty) → IsValue s.tags t → by_pointer t ≡ true → C (bare t)
  value_taken t v b = taken t b (value_complete s.tags t v (ap is_tagged (sym (value_bare s.tags t v)) ∙ b))

  module _ (ls : List LocalState) where
    mutual
      term_calls : (x : Term) → TermOk true (with_locals s ls) x → CallsFit C x
      term_calls (term tree.Call (with_term f xs) t p) h =
          (term_calls f h.0.0, arguments_taken h.1.1 xs h.1.3 h.1.6, λ b. value_taken t h.1.5 b, terms_calls xs h.0.1)
      term_calls (term tree.Call no_terms t p) h = absurd h.1
      term_calls (term m xs t p) h = terms_calls xs h.0

      terms_calls : (xs : Terms) → TermsOk true (with_locals s ls) xs → AllCallsFit C xs
      terms_calls no_terms h = tt
      terms_calls (with_term x xs) h = (term_calls x h.0, terms_calls xs h.1)

    mutual
      pub action_calls : (t : Ty) (i : Inside) (x : Action) → ActionOk (with_locals s ls) t i x → ActionCalls C x
      action_calls t i (action f xs ys p) h = (terms_calls xs h.0, actions_calls t (inside_of f i) ys h.2)

      actions_calls : (t : Ty) (i : Inside) (ys : Actions) → ActionsOk (with_locals s ls) t i ys → AllActionCalls C ys
      actions_calls t i no_actions h = tt
      actions_calls t i (with_action y ys) h = (action_calls t i y h.0, actions_calls t i ys h.1)

-- ---- forms

-- what is no `return` of a value
abbrev NotGiven : Form → Terms → ℕ → Type 0
NotGiven tree.Return (with_term a no_terms) zero = ⊥
NotGiven f xs k = Unit {0}

count_passed : (e : Passing) (n k m : ℕ) (ys : Actions) → count_of (passed_actions e n k m ys) ≡ count_of ys
count_passed e n k m no_actions = refl
count_passed e n (suc k) m (with_action y ys) =
    ap (λ c. c + 1) (count_passed e (n + length (hidden_of e.names y)) k m ys)
count_passed e n zero m (with_action y ys) =
    ap (λ c. c + 1) (count_passed e (n + m + length (hidden_of e.names y)) zero 0 ys)

void_result : (t : Ty) → is_void t ≡ true → is_void (passed_result t) ≡ true
void_result Void e = refl
void_result t e = absurd (false≢true e)

module _ (names : Names) (s : State) (ls : List LocalState) (vars : List Variable) (number : ℕ → ℕ)
    (written : (k : ℕ) (v : LocalState) → slice_get ls k ≡ Some v →
    (w : Variable) × (slice_get vars (number k) ≡ Some w) × (w.of ≡ passed v.of)) where
  abbrev old : State
  old = with_locals s ls

  abbrev here : State
  here = run names s ls vars number written

  abbrev e : Passing
  e = record { names = names; number = number }

  test_passes : (n : ℕ) (xs : Terms) → AllLike xs (passed_terms e n xs) → IsTest xs → IsTest (passed_terms e n xs)
  test_passes n (with_term a no_terms) l h = test_like is_scalar scalar_passed a _ l.0 ∙ h
  test_passes n no_terms l h = absurd h
  test_passes n (with_term a (with_term b xs)) l h = absurd h

  tests_pass : (n : ℕ) (a b : Bool) (xs : Terms) → AllLike xs (passed_terms e n xs) → TestsFit a b xs →
      TestsFit a b (passed_terms e n xs)
  tests_pass n false false no_terms l h = tt
  tests_pass n false true (with_term c no_terms) l h = tt
  tests_pass n true false (with_term c no_terms) l h = test_like is_scalar scalar_passed c _ l.0 ∙ h
  tests_pass n true true (with_term c (with_term d no_terms)) l h = test_like is_scalar scalar_passed c _ l.0 ∙ h
  tests_pass n a b xs l h = absurd h

  are_passed : (ks : List ℕ) → AreLocals old ks → AreLocals here (map number ks)
  are_passed ks h j k q =
      let i = mapped_from number ks j k q in
      let v = at_number ls i.0 (h j i.0 i.1) in
      let w = written i.0 v.0 v.1 in
      slice_get_within (map as_local vars) k (as_local w.0)
      (ap (slice_get (map as_local vars)) (sym i.2) ∙ slice_get-map as_local vars (number i.0)
      ∙ ap (option_map as_local) w.1)

  init_passes : (k o : ℕ) (t u : Ty) → u ≡ passed t → InitOk old k o t → InitOk here (number k) o u
  init_passes k o t u q h =
      let w = written k h.0 h.3 in
      let at : slice_get (map as_local vars) (number k) ≡ Some (as_local w.0) =
      slice_get-map as_local vars (number k) ∙ ap (option_map as_local) w.1 in
      let whole : WholeOk w.0.of o u = λ c. let r = h.7 (sym
      (ap (λ t. is_scalar (bare t)) w.2 ∙ ap is_scalar (bare_passed h.0.of) ∙ scalar_passed (bare h.0.of)) ∙ c) in
      (r.0, q ∙ ap passed r.1 ∙ sym (bare_passed h.0.of) ∙ ap bare (sym w.2)) in (
        as_local w.0,
        h.1,
        h.2,
        at,
        ap (type_extent (passed_records s.tags)) w.2 ∙ extent_passed s.tags h.0.of ∙ h.4,
        ap (type_extent (passed_records s.tags)) q ∙ extent_passed s.tags t ∙ h.5,
        h.6,
        whole,
      )

  form_passes : (given : Ty) (i : Inside) (n : ℕ) (f : Form) (xs : Terms) (k : ℕ) → NotGiven f xs k →
      AllLike xs (passed_terms e n xs) → FormOk old given i f xs k →
      FormOk here (passed_result given) i (passed_form e f) (passed_terms e n xs) k
  form_passes given i n tree.Evaluate (with_term a no_terms) zero c l h = tt
  form_passes given i n (tree.Init k o) (with_term a no_terms) zero c l h =
      init_passes k o (type_of a) (type_of (passed_term e n a)) l.0.type h
  form_passes given i n (tree.Block vs) no_terms k c l h = are_passed vs h
  form_passes given i n tree.If xs k c l h = (test_passes n xs l h.0, h.1)
  form_passes given i n tree.While xs k c l h = (test_passes n xs l h.0, h.1)
  form_passes given i n tree.Do xs k c l h = (test_passes n xs l h.0, h.1)
  form_passes given i n (tree.For vs m a b) xs k c l h = (are_passed vs h.0, tests_pass n a b xs l h.1, h.2)
  form_passes given i n (tree.Switch vs labels) (with_term a no_terms) k c l h =
      let t : type_of (passed_term e n a) ≡ type_of a = l.0.type ∙ passed_integer (type_of a) h.1 in
      (are_passed vs h.0, ap is_integer t ∙ h.1, ap promoted t ∙ h.2 ∙ sym t, h.3)
  form_passes given i n tree.Break no_terms zero c l h = h
  form_passes given i n tree.Continue no_terms zero c l h = h
  form_passes given i n tree.Return no_terms zero c l h = void_result given h
  form_passes given i n tree.Return (with_term a no_terms) zero c l h = absurd c
  form_passes given i n tree.Empty no_terms zero c l h = tt
  form_passes given i n f xs k c l h = absurd h

  -- what a variable points to
  behind_ok : (k : ℕ) (t : Ty) (p : Pos) → LocalOk here k (Pointer t) → Sized (passed_records s.tags) t →
      TermOk true here (behind k t p)
  behind_ok k t p v z = ((((((tt, v), tt), (refl, refl, scalar refl, λ q. refl)), tt)), (refl, inl z))

  module _ (given : Ty) (value : IsValue s.tags given)
      (tags : (k : ℕ) (t : TagState) → slice_get s.tags k ≡ Some t → TagOk s.tags k t)
      (result : by_pointer given ≡ true → LocalOk here 0 (Pointer (bare given))) where
    -- ---- `return` of a value

    given_back_ok : (i : Inside) (n : ℕ) (x : Term) (p : Pos) → TermOk true old x → type_of x ≡ given →
        Holds vars n (hidden_in names x) → by_pointer (type_of x) ≡ true →
        ActionOk here (passed_result given) i (given_back (passed_term e n x) (bare (type_of x)) p)
    given_back_ok i n x p h q z b =
        let t = type_of x in
        let b2 : by_pointer given ≡ true = ap by_pointer (sym q) ∙ b in
        let c = value_sized s tags given value b2 in
        let u : Sized (passed_records s.tags) (bare t) =
        subst (λ t. Sized (passed_records s.tags) (bare t)) (sym q) c in
        let v : LocalOk here 0 (Pointer (bare t)) =
        subst (λ t. LocalOk here 0 (Pointer (bare t))) (sym q) (result b2) in
        let same : bare t ≡ t = ap bare q ∙ value_bare s.tags given value ∙ sym q in
        let assign = assigned_ok names s ls vars number written (behind 0 (bare t) p) (passed_term e n x) (bare t) p b
        refl refl (behind_ok 0 (bare t) p v u) (term_passes names s ls vars number written n x h z)
        ((term_like names s ls vars number written n x h).type ∙ tagged_self names s ls vars number written t same b)
        (u.0, u.1) in (
          tt,
          (λ j k g. absurd cc),
          (((assign, tt), tt, tt), ((tt, ap is_void (ap (λ b. if b then Void else passed given) b2), tt), tt)),
        )

    return_passes : (i : Inside) (n : ℕ) (x : Term) (p : Pos) → TermOk true old x → type_of x ≡ given →
        Holds vars n (hidden_in names x) →
        ActionOk here (passed_result given) i (passed_action e n
        (action tree.Return (with_term x no_terms) no_actions p))
    return_passes i n x p h q z =
        branched (ActionOk here (passed_result given) i) (by_pointer (type_of x))
        (given_back (passed_term e n x) (bare (type_of x)) p)
        (action tree.Return (one_term (passed_term e n x)) no_actions p)
        (λ b. given_back_ok i n x p h q z b)
        (λ b. (
          (term_passes names s ls vars number written n x h z, tt),
          (term_like names s ls vars number written n x h).type ∙ ap passed q
              ∙ sym (ap (λ b. if b then Void else passed given) (ap by_pointer (sym q) ∙ b)),
          tt,
        ))

    no_return : (i : Inside) (a : Term) (k c : ℕ) → k ≡ c + 1 →
        FormOk old given i tree.Return (with_term a no_terms) k → ⊥
    no_return i a zero c q h = omega (arith, q)
    no_return i a (suc k) c q h = h

    -- ---- statements

    mutual
      pub action_passes : (i : Inside) (n : ℕ) (x : Action) → ActionOk old given i x →
          Holds vars n (hidden_of names x) → ActionOk here (passed_result given) i (passed_action e n x)
      action_passes i n (action tree.Return (with_term x no_terms) no_actions p) h z =
          return_passes i n x p h.0.0 h.1 (holds_return names vars n x p z)
      action_passes i n (action tree.Return (with_term x no_terms) (with_action y ys) p) h z =
          absurd (no_return i x (count_of ys + 1) (count_of ys) refl h.1)
      action_passes i n (action f xs ys p) h z =
          let c = holds_action names vars n f xs ys p z in
          let m = n + length (first_hidden_of names (ahead f) ys) in (
            terms_pass names s ls vars number written m xs h.0 c.0,
            subst (FormOk here (passed_result given) i (passed_form e f) (passed_terms e m xs))
                (sym (count_passed e n (ahead f) (length (all_hidden_in names xs)) ys))
                (form_passes given i m f xs (count_of ys) tt (terms_like names s ls vars number written m xs h.0) h.1),
            actions_pass (inside_of f i) n (ahead f) (length (all_hidden_in names xs)) ys h.2 c.1,
          )

      pub actions_pass : (i : Inside) (n k m : ℕ) (ys : Actions) → ActionsOk old given i ys →
          ActionsHold names vars n k m ys → ActionsOk here (passed_result given) i (passed_actions e n k m ys)
      actions_pass i n k m no_actions h z = tt
      actions_pass i n (suc k) m (with_action y ys) h z =
          let c = holds_first names vars n k m y ys z in
          (action_passes i n y h.0 c.0, actions_pass i (n + length (hidden_of names y)) k m ys h.1 c.1)
      actions_pass i n zero m (with_action y ys) h z =
          let c = holds_last names vars n m y ys z in
          (action_passes i (n + m) y h.0 c.0, actions_pass i (n + m + length (hidden_of names y)) zero 0 ys h.1 c.1)

    -- ---- the body

    abbrev AllSized : List Variable → Type 0
    AllSized vs = (k : ℕ) (v : Variable) → slice_get vs k ≡ Some v → Complete s.tags v.of

    bare_extent : (t : Ty) → by_pointer t ≡ true →
        type_extent (passed_records s.tags) t ≡ type_extent (passed_records s.tags) (bare t)
    bare_extent (Tagged n) b = refl
    bare_extent (Const (Tagged n)) b = refl
    bare_extent t b = absurd (false≢true b)

    copy_ok : (i : Inside) (k j : ℕ) (v w : Variable) → by_pointer v.of ≡ true → slice_get vars k ≡ Some w →
        w.of ≡ Pointer (bare v.of) → slice_get vars j ≡ Some v → Complete s.tags v.of →
        ActionOk here (passed_result given) i (param_copy k j v)
    copy_ok i k j v w b there q at c =
        let u = pointer_sized s tags v.of b c in
        let l = local_there names s ls vars number written k w (Pointer (bare v.of)) there
        (ap (refines (Pointer (bare v.of))) q ∙ refines_self (Pointer (bare v.of))) in (
          (
            (
              ((behind_ok k (bare v.of) v.place l u), tt),
              (
                refl,
                bare_bare v.of b,
                struct_value v.of b (u.0, u.1),
                λ z. absurd (false≢true (sym (ap is_tagged z) ∙ b)),
              ),
            ),
            tt,
          ),
          (
            as_local v,
            u.0,
            u.0,
            slice_get-map as_local vars j ∙ ap (option_map as_local) at,
            bare_extent v.of b ∙ u.1,
            u.1,
            omega arith,
            λ z. (refl, refl),
          ),
          tt,
        )
      where
        bare_bare : (t : Ty) → by_pointer t ≡ true → bare t ≡ bare (bare t)
        bare_bare (Tagged n) b = refl
        bare_bare (Const (Tagged n)) b = refl
        bare_bare t b = absurd (false≢true b)

        struct_value : (t : Ty) → by_pointer t ≡ true → Complete (passed_records s.tags) (bare t) →
            IsValue (passed_records s.tags) (bare t)
        struct_value (Tagged n) b c = tagged n refl c
        struct_value (Const (Tagged n)) b c = tagged n refl c
        struct_value t b c = absurd (false≢true b)

    copies_ok : (i : Inside) (k j : ℕ) (vs : List Variable) (ys : Actions) → CopiesHold vars k j vs → AllSized vs →
        ActionsOk here (passed_result given) i ys → ActionsOk here (passed_result given) i (param_copies k j vs ys)
    copies_ok i k j [] ys h c o = o
    copies_ok i k j (v ∷ vs) ys h c o =
        ⊎_elim
        (λ z. subst (ActionsOk here (passed_result given) i)
        (sym (ap (λ b. if b then with_action (param_copy k j v) (param_copies (k + 1) (j + 1) vs ys)
        else param_copies (k + 1) j vs ys) z.0)) (
          copy_ok i k j v z.1 z.0 z.2 z.3 z.4 (c 0 v refl),
          copies_ok i (k + 1) (j + 1) vs ys z.5 (λ n w g. c (suc n) w g) o,
        ))
        (λ z. subst (ActionsOk here (passed_result given) i)
        (sym (ap (λ b. if b then with_action (param_copy k j v) (param_copies (k + 1) (j + 1) vs ys)
        else param_copies (k + 1) j vs ys) z.0))
        (copies_ok i (k + 1) j vs ys z.1 (λ n w g. c (suc n) w g) o)) h

    -- The outermost block, with the copies of parameters in front
    pub body_passes : (i : Inside) (n : ℕ) (copied hidden : List ℕ) (k j : ℕ) (vs : List Variable) (bs : List ℕ)
        (ys : Actions) (p : Pos) → AreLocals here (copied ++ map number bs ++ hidden) → CopiesHold vars k j vs →
        AllSized vs →
        ActionOk old given i (action (tree.Block bs) no_terms ys p) →
        Holds vars n (hidden_of names (action (tree.Block bs) no_terms ys p)) →
        ActionOk here (passed_result given) i (opened copied hidden (param_copies k j vs)
        (passed_action e n (action (tree.Block bs) no_terms ys p)))
    body_passes i n copied hidden k j vs bs ys p are h c o z =
        let d = holds_action names vars n (tree.Block bs) no_terms ys p z in
        (tt, are, copies_ok i k j vs (passed_actions e n 0 0 ys) h c (actions_pass i n 0 0 ys o.2 d.1))
