-- The program as it is run, with structs and unions by pointers: its values stand where values are asked for.
use Rattle.std.proofs.Common.{Some, drop, append_assoc, length-append, ◌<◌, ◌≤◌, ◌++◌, map, take, ◌≡◌, ℕ, zero, suc}
use Rattle.std.proofs.Common.{◌+◌, Bool, true, false, List, [], ◌∷◌, length, refl, sym, ap, subst, ◌∙◌, inl, inr, ◌⊎◌}
use Rattle.std.proofs.Common.{arith}
use Rattle.std.specs.Prelude.{slice_get, if◌then◌else◌}
use Rattle.std.proofs.lemmas.Option.{same_Some}
use Rattle.std.proofs.lemmas.Bool.{false≢true}
use Rattle.ck_base.specs.declared.positions.Pos.{Pos}
use Rattle.c_tree.specs.Conversions.{is_place}
use Rattle.c_tree.specs.Passed.{passed_param, passed_variable, result_types, result_variable, Names, by_pointer, passed}
use Rattle.c_tree.specs.Passed.{for_arguments, for_call, hidden_in, hidden_for, all_hidden_in, ahead, hidden_of}
use Rattle.c_tree.specs.Passed.{first_hidden_of, Passing, by_address, call_with, by_result, passed_term, passed_terms}
use Rattle.c_tree.specs.Passed.{passed_arguments, one_term, given_back, passed_action, passed_actions, result_pointer}
use Rattle.c_tree.specs.Passed.{written_params, copied_params, named_variables, variable_number, passing, param_copy}
use Rattle.c_tree.specs.Passed.{all_passed, param_copies, opened}
use Rattle.c_tree.specs.Programs.{variable_of}
use Rattle.c_tree.specs.Scopes.{LocalState, TagState, RoutineState, Body, State}
use Rattle.c_tree.specs.Terms as tree
use Rattle.c_tree.specs.Terms.{Term, Terms, term, no_terms, with_term, type_of, Form, Action, Actions, action}
use Rattle.c_tree.specs.Terms.{no_actions, with_action, Variable, Routine, numbers_from}
use Rattle.c_tree.specs.Types.{count, Ty, Tys, no_types, also, Void, Int, Cap, Pointer, Array, Tagged, Function, Const}
use Rattle.c_tree.specs.Types.{bare, is_integer, is_scalar, is_tagged, is_void}
use Rattle.c_tree.specs.WellTyped.{Inside, inside_of, in_loop, in_switch, outside, count_of, ArgumentsFit}
use Rattle.typing_laws.proofs.PassedStates.{as_local, written, passed_whole}
use Rattle.typing_laws.proofs.PassingTypes.{function_cases, tagged_passed, void_passed, scalar_passed}
use Rattle.typing_laws.proofs.PassedVariables.{numbers_length}
use Rattle.typing_laws.proofs.Wholes.{ParamsFit, mapped_from, with_locals, BodyOk}
use Rattle.typing_laws.proofs.Facts.{Inv, IsValue as IsTyped, scalar, nothing, tagged, TermOk, TermsOk, Complete}
use Rattle.typing_laws.proofs.Facts.{AllTaken}
use Rattle.typing_laws.proofs.Acts.{FormOk, ActionOk, ActionsOk}
use Rattle.typing_laws.specs.Valued.{AreScalars, is_plain, IsValue, IsPlace, AreAsked, ActionValued, Begins, FirstBegin}
use Rattle.typing_laws.specs.Valued.{ActionsValued, IsComputed}
use Rattle.typing_laws.proofs.values.Stepping.{AreAdjusted}
use Rattle.typing_laws.proofs.values.Made.{is_read, TermMade, TermsMade, TermWorth, ActionMade, ActionsMade}
use Rattle.typing_laws.proofs.values.Sorts.{AreFunctions, library_plain, or_second, member_read, function_read}
use Rattle.typing_laws.proofs.values.Sorts.{unstored}
use Rattle.typing_laws.proofs.values.Sorts.{is_stored, is_site, designates_site, decays_site, address_site}
use Rattle.typing_laws.proofs.values.Sorts.{modifiable_site}
use Rattle.typing_laws.proofs.values.Sorts.{unread_site}

-- ---- expressions

either : {P Q : Type 0} (b c : Bool) → b ≡ c → (b ≡ true → Q) → (b ≡ false → P) → P ⊎ Q
either b true e f g = inr (f e)
either b false e f g = inl (g e)

plain_passed : (t : Ty) → is_plain (passed t) ≡ is_plain t
plain_passed t = let e = void_passed t in let g = scalar_passed t in rw e (rw g refl)

-- what is no struct or union, perhaps qualified
direct : (t : Ty) → by_pointer t ≡ false → is_tagged t ≡ false
direct (Const t) e = refl
direct t e = e

plain_value : (ts : List TagState) (t : Ty) → IsTyped ts t → by_pointer t ≡ false → is_plain t ≡ true
plain_value ts t (scalar h) e = or_second (is_void t) (is_scalar t) h
plain_value ts t (nothing i) e = ap is_plain i
plain_value ts t (tagged n i c) e = absurd (false≢true (sym e ∙ ap by_pointer i))

called_valued : (ts : List TagState) (m : ℕ) (g : Term) (ys : Terms) (t : Ty) (p : Pos) → IsTyped ts t →
    is_scalar (type_of g) ≡ true → IsValue g → AreScalars ys → AreAsked false ys → IsValue (call_with m g ys t p)
called_valued ts m g ys t p v d h ds k = by (by_pointer t) refl
  where
    by : (b : Bool) → by_pointer t ≡ b → IsValue (if b then by_result m g ys (bare t) p
        else term tree.Call (with_term g ys) (passed t) p)
    by true i = (tt, (((refl, (d, (refl, ds))), (h, ((tt, (tt, tt)), k))), ((i, tt), tt)))
    by false i = ((plain_passed t ∙ plain_value ts t v i, (d, ds)), (h, k))

argument_valued : (m : ℕ) (y : Term) (t : Ty) (p : Pos) → IsValue y →
    IsValue (if by_pointer t then by_address m y (bare t) p else y)
argument_valued m y t p h = by (by_pointer t)
  where
    by : (b : Bool) → IsValue (if b then by_address m y (bare t) p else y)
    by true = (tt, ((tt, (tt, (h, tt))), ((tt, (tt, tt)), tt)))
    by false = h

-- a type of integers stays as it is
computed_passed : (t : Ty) → IsComputed t → IsComputed (passed t)
computed_passed (Int k n) h e = h e
computed_passed (Cap s) h e = h e
computed_passed (Function r ps) h e = absurd (by (by_pointer r) e)
  where
    by : (b : Bool) → is_integer (if b then Function Void (also (Pointer (bare r)) (all_passed ps))
        else Function (passed r) (all_passed ps)) ≡ true → ⊥
    by true e = false≢true e
    by false e = false≢true e
computed_passed t h e = absurd (false≢true e)

-- ---- no structs and unions

abbrev const_depth : Ty → ℕ
const_depth (Const t) = suc (const_depth t)
const_depth t = 0

complete_scalar : (ts : List TagState) (t : Ty) → is_stored t ≡ false → by_pointer t ≡ false → bare t ≡ t →
    Complete ts t → is_scalar t ≡ true
complete_scalar ts Void a b e c = absurd cc
complete_scalar ts (Int k n) a b e c = refl
complete_scalar ts (Cap s) a b e c = refl
complete_scalar ts (Pointer t) a b e c = refl
complete_scalar ts (Array t n) a b e c = absurd (false≢true (sym a))
complete_scalar ts (Function r ps) a b e c = absurd (false≢true (sym a))
complete_scalar ts (Tagged n) a b e c = absurd (false≢true (sym b))
complete_scalar ts (Const t) a b e c =
    let d : const_depth t ≡ suc (const_depth t) = ap const_depth e in absurd (omega arith)

argument_scalar : (m : ℕ) (y : Term) (t : Ty) (p : Pos) → (by_pointer t ≡ false → is_scalar (type_of y) ≡ true) →
    is_scalar (type_of (if by_pointer t then by_address m y (bare t) p else y)) ≡ true
argument_scalar m y t p h = by (by_pointer t) refl
  where
    by : (b : Bool) → by_pointer t ≡ b → is_scalar (type_of (if b then by_address m y (bare t) p else y)) ≡ true
    by true i = refl
    by false i = h i

called_type : (m : ℕ) (g : Term) (ys : Terms) (t : Ty) (p : Pos) → by_pointer t ≡ false →
    type_of (call_with m g ys t p) ≡ passed t
called_type m g ys t p h =
    ap (λ b. type_of (if b then by_result m g ys (bare t) p else term tree.Call (with_term g ys) (passed t) p)) h

one_returned : (s : State) (t : Ty) (i : Inside) (x : Term) (m : ℕ) →
    FormOk s t i tree.Return (with_term x no_terms) (m + 1) → ⊥
one_returned s t i x m h =
    let e : m + 1 ≡ suc m = omega arith in subst (FormOk s t i tree.Return (with_term x no_terms)) e h

module _ (names : Names) (number : ℕ → ℕ) (s : State) (functions : AreFunctions s) where
  abbrev e : Passing
  e = record { names = names; number = number }

  term_type : (n : ℕ) (x : Term) → by_pointer (type_of x) ≡ false → type_of (passed_term e n x) ≡ passed (type_of x)
  term_type n (term tree.Call (with_term f xs) t p) h = called_type _ _ _ t p h
  term_type n (term x xs t p) h = refl

  term_scalar : (n : ℕ) (x : Term) → by_pointer (type_of x) ≡ false → is_scalar (type_of x) ≡ true →
      is_scalar (type_of (passed_term e n x)) ≡ true
  term_scalar n x h g = ap is_scalar (term_type n x h) ∙ scalar_passed (type_of x) ∙ g

  arguments_scalar : (own n : ℕ) (ps : Tys) (xs : Terms) (p : Pos) → TermsMade false xs → TermsOk true s xs →
      ArgumentsFit ps xs → AllTaken s.tags ps → AreScalars (passed_arguments e own n xs p)
  arguments_scalar own n ps no_terms p h o fit all = tt
  arguments_scalar own n (also t ts) (with_term x xs) p h o fit all = (
    argument_scalar own (passed_term e n x) (type_of x) p
        (λ i. term_scalar n x i (complete_scalar s.tags (type_of x) (unstored s functions x h.0 o.0) i
        (ap bare fit.0 ∙ all.0 ∙ sym fit.0) (subst (Complete s.tags) (sym fit.0) all.1))),
    arguments_scalar (own + length (hidden_for names p (type_of x))) (n + length (hidden_in names x)) ts xs p h.1 o.1
        fit.1 all.2,
  )
  arguments_scalar own n no_types (with_term x xs) p h o fit all = absurd fit

  mutual
    pub value_passed : (n : ℕ) (x : Term) → TermWorth x → TermOk true s x → IsValue (passed_term e n x)
    value_passed n (term (tree.Literal k) xs t p) h o = absurd (false≢true h.1)
    value_passed n (term (tree.Var k) xs t p) h o = absurd (false≢true h.1)
    value_passed n (term (tree.Global k) xs t p) h o = absurd (false≢true h.1)
    value_passed n (term (tree.Fun k) xs t p) h o = absurd (function_read s functions k xs t p h.1 o)
    value_passed n (term tree.Deref xs t p) h o = absurd (false≢true h.1)
    value_passed n (term (tree.Member k) (with_term a no_terms) t p) h o = absurd (member_read (is_place a) h.1)
    value_passed n (term (tree.Member k) no_terms t p) h o = absurd o.1
    value_passed n (term (tree.Member k) (with_term a (with_term b xs)) t p) h o = absurd o.1
    value_passed n (term tree.Load (with_term a no_terms) t p) h o =
        (tt, (place_passed n a h.0.1.0 o.0.0 (designates_site a o.1.0), tt))
    value_passed n (term tree.Load (with_term a (with_term b xs)) t p) h o = absurd o.1
    value_passed n (term tree.Decay (with_term a no_terms) t p) h o =
        (tt, (place_passed n a h.0.1.0 o.0.0 (decays_site a t o.1), tt))
    value_passed n (term tree.Decay (with_term a (with_term b xs)) t p) h o = absurd o.1
    value_passed n (term tree.Address (with_term a no_terms) t p) h o =
        (tt, (place_passed n a h.0.1.0 o.0.0 (address_site a o.1.0), tt))
    value_passed n (term tree.Address (with_term a (with_term b xs)) t p) h o = absurd o.1
    value_passed n (term (tree.Step adds in_front) (with_term a no_terms) t p) h o =
        (tt, (place_passed n a h.0.1.0 o.0.0 (modifiable_site a o.1.0), tt))
    value_passed n (term (tree.Step adds in_front) (with_term a (with_term b xs)) t p) h o = absurd o.1
    value_passed n (term tree.Assign (with_term a (with_term b no_terms)) t p) h o =
        (tt, (place_passed n a h.0.1.0 o.0.0 (modifiable_site a o.1.0), (value_passed _ b h.0.1.1.0 o.0.1.0, tt)))
    value_passed n (term tree.Assign (with_term a no_terms) t p) h o = absurd o.1
    value_passed n (term tree.Assign (with_term a (with_term b (with_term c xs))) t p) h o = absurd o.1
    value_passed n (term (tree.Compound op of) (with_term a (with_term b no_terms)) t p) h o = (
      computed_passed of h.0.0,
      (place_passed n a h.0.1.0 o.0.0 (modifiable_site a o.1.0), (value_passed _ b h.0.1.1.0 o.0.1.0, tt)),
    )
    value_passed n (term (tree.Compound op of) no_terms t p) h o = absurd o.1
    value_passed n (term (tree.Compound op of) (with_term a no_terms) t p) h o = absurd o.1
    value_passed n (term (tree.Compound op of) (with_term a (with_term b (with_term c xs))) t p) h o = absurd o.1
    value_passed n (term (tree.Capability op r) xs t p) h o = (h.0.0, values_passed n xs h.0.1 o.0)
    value_passed n (term tree.Call (with_term f xs) t p) h o =
        let own = n + length (hidden_in names f) in
        let inner = own + length (for_call names p xs t) in
        called_valued s.tags (own + length (for_arguments names p xs)) (passed_term e n f)
        (passed_arguments e own inner xs p) t p o.1.5
        (term_scalar n f (ap by_pointer o.1.2) (ap is_scalar o.1.2)) (value_passed n f h.0.1.0 o.0.0)
        (arguments_scalar own inner o.1.1 xs p h.0.1.1 o.0.1 o.1.3 o.1.6)
        (arguments_passed own inner xs p h.0.1.1 o.0.1)
    value_passed n (term tree.Call no_terms t p) h o = absurd o.1
    value_passed n (term (tree.Library k) xs t p) h o =
        (plain_passed t ∙ library_plain s k xs t o.1, values_passed n xs h.0.1 o.0)
    value_passed n (term x xs t p) h o = (tt, values_passed n xs h.0.1 o.0)

    place_passed : (n : ℕ) (x : Term) → TermMade x → TermOk true s x → is_site x ≡ true → IsPlace (passed_term e n x)
    place_passed n (term (tree.Literal k) no_terms t p) h o c = (o.1.0, ap passed o.1.1, o.1.2)
    place_passed n (term (tree.Literal k) (with_term x xs) t p) h o c = absurd o.1
    place_passed n (term (tree.Var k) xs t p) h o c = tt
    place_passed n (term (tree.Global k) xs t p) h o c = tt
    place_passed n (term (tree.Fun k) xs t p) h o c = tt
    place_passed n (term tree.Deref xs t p) h o c = values_passed n xs h.1 o.0
    place_passed n (term (tree.Member k) (with_term a no_terms) t p) h o c =
        either (is_read a) (is_read a) refl (λ r. value_passed n a (h.1.0, r) o.0.0)
        (λ r. place_passed n a h.1.0 o.0.0 (unread_site a r))
    place_passed n (term (tree.Member k) no_terms t p) h o c = absurd o.1
    place_passed n (term (tree.Member k) (with_term a (with_term b xs)) t p) h o c = absurd o.1
    place_passed n (term x xs t p) h o c =
        absurd (false≢true (sym (unstored s functions (term x xs t p) (h, refl) o) ∙ c))

    pub values_passed : (n : ℕ) (xs : Terms) → TermsMade false xs → TermsOk true s xs →
        AreAsked false (passed_terms e n xs)
    values_passed n no_terms h o = tt
    values_passed n (with_term x xs) h o = (value_passed n x h.0 o.0, values_passed _ xs h.1 o.1)

    arguments_passed : (own n : ℕ) (xs : Terms) (p : Pos) → TermsMade false xs → TermsOk true s xs →
        AreAsked false (passed_arguments e own n xs p)
    arguments_passed own n no_terms p h o = tt
    arguments_passed own n (with_term x xs) p h o = (
      argument_valued own (passed_term e n x) (type_of x) p (value_passed n x h.0 o.0),
      arguments_passed (own + length (hidden_for names p (type_of x))) (n + length (hidden_in names x)) xs p h.1 o.1,
    )

  -- ---- statements

  return_passed : (n : ℕ) (x : Term) (p : Pos) → TermWorth x → TermOk true s x →
      ActionValued (passed_action e n (action tree.Return (with_term x no_terms) no_actions p))
  return_passed n x p h o = by (by_pointer (type_of x)) refl
    where
      by : (b : Bool) → by_pointer (type_of x) ≡ b →
          ActionValued (if b then given_back (passed_term e n x) (bare (type_of x)) p
          else action tree.Return (one_term (passed_term e n x)) no_actions p)
      by true i =
          let y = value_passed n x h o in
          (tt, tt, ((tt, ((tt, (((tt, (tt, tt)), tt), (y, tt))), tt), tt), ((tt, tt, tt), tt)))
      by false i =
          ((ap is_tagged (term_type n x i) ∙ tagged_passed _ ∙ direct _ i, tt), (value_passed n x h o, tt), tt)

  begins_passed : (n : ℕ) (x : Action) → Begins x → Begins (passed_action e n x)
  begins_passed n (action tree.Evaluate xs ys p) h = tt
  begins_passed n (action (tree.Init k offset) xs ys p) h = tt
  begins_passed n (action f xs ys p) h = absurd h

  begin_passed : (n k m j : ℕ) (ys : Actions) → FirstBegin j ys → FirstBegin j (passed_actions e n k m ys)
  begin_passed n k m zero ys h = tt
  begin_passed n k m (suc j) no_actions h = tt
  begin_passed n (suc k) m (suc j) (with_action y ys) h =
      (begins_passed n y h.0, begin_passed (n + length (hidden_of names y)) k m j ys h.1)
  begin_passed n zero m (suc j) (with_action y ys) h =
      (begins_passed (n + m) y h.0, begin_passed (n + m + length (hidden_of names y)) zero 0 j ys h.1)

  module _ (given : Ty) where
    mutual
      pub action_passed : (i : Inside) (n : ℕ) (x : Action) → ActionMade x → ActionOk s given i x →
          ActionValued (passed_action e n x)
      action_passed i n (action tree.Return (with_term x no_terms) no_actions p) h o =
          return_passed n x p h.1.0 o.0.0
      action_passed i n (action tree.Return no_terms ys p) h o =
          (tt, tt, actions_passed i n 0 0 ys h.2 o.2)
      action_passed i n (action tree.Return (with_term x no_terms) (with_action y ys) p) h o =
          absurd (one_returned s given i x (count_of ys) o.1)
      action_passed i n (action tree.Return (with_term x (with_term z xs)) ys p) h o = absurd o.1
      action_passed i n (action (tree.Switch vars ls) xs ys p) h o = (
        h.0,
        values_passed (n + 0) xs h.1 o.0,
        actions_passed (in_switch i) n 0 (length (all_hidden_in names xs)) ys h.2 o.2,
      )
      action_passed i n (action (tree.For vars k a b) xs ys p) h o = (
        begin_passed n k (length (all_hidden_in names xs)) k ys h.0,
        values_passed (n + length (first_hidden_of names k ys)) xs h.1 o.0,
        actions_passed in_loop n k (length (all_hidden_in names xs)) ys h.2 o.2,
      )
      action_passed i n (action f xs ys p) h o = (
        tt,
        values_passed (n + length (first_hidden_of names (ahead f) ys)) xs h.1 o.0,
        actions_passed (inside_of f i) n (ahead f) (length (all_hidden_in names xs)) ys h.2 o.2,
      )

      pub actions_passed : (i : Inside) (n k m : ℕ) (ys : Actions) → ActionsMade ys → ActionsOk s given i ys →
          ActionsValued (passed_actions e n k m ys)
      actions_passed i n k m no_actions h o = tt
      actions_passed i n (suc k) m (with_action y ys) h o =
          (action_passed i n y h.0 o.0, actions_passed i (n + length (hidden_of names y)) k m ys h.1 o.1)
      actions_passed i n zero m (with_action y ys) h o =
          (action_passed i (n + m) y h.0 o.0, actions_passed i (n + m + length (hidden_of names y)) zero 0 ys h.1 o.1)

-- ---- parameters

copies_valued : (k j : ℕ) (vs : List Variable) (ys : Actions) → ActionsValued ys →
    ActionsValued (param_copies k j vs ys)
copies_valued k j [] ys h = h
copies_valued k j (v ∷ vs) ys h =
    by (by_pointer v.of) (copies_valued (k + 1) (j + 1) vs ys h) (copies_valued (k + 1) j vs ys h)
  where
    by : (b : Bool) → ActionsValued (param_copies (k + 1) (j + 1) vs ys) →
        ActionsValued (param_copies (k + 1) j vs ys) →
        ActionsValued (if b then with_action (param_copy k j v) (param_copies (k + 1) (j + 1) vs ys)
        else param_copies (k + 1) j vs ys)
    by true with_copy without = ((tt, ((tt, (((tt, (tt, tt)), tt), tt)), tt), tt), with_copy)
    by false with_copy without = without

-- ---- functions

module _ (names : Names) (s : State) (i : Inv true s) (f : RoutineState) (b : Body) (ok : BodyOk s f.of b)
    (made : ActionMade b.action) where
  abbrev whole : Routine
  whole = written f b

  abbrev result : ℕ
  result = length (result_pointer whole)

  abbrev front : ℕ
  front = result + length whole.params

  abbrev named : ℕ
  named = length (named_variables whole)

  pub whole_valued : ActionValued (passed_whole names f b).action
  whole_valued =
      let bs = ok.block.0 in let ys = ok.block.1 in let p = ok.block.2 in
      let old : ActionOk (with_locals s b.vars) ok.gives outside (action (tree.Block bs) no_terms ys p) =
      subst (ActionOk (with_locals s b.vars) ok.gives outside) ok.block.3 ok.body in
      let new : ActionMade (action (tree.Block bs) no_terms ys p) = subst ActionMade ok.block.3 made in
      let inner = actions_passed names (variable_number whole) (with_locals s b.vars) (λ k f e. (i.routines k f e).1)
      ok.gives outside named 0 0 ys new.2 old.2 in
      let copies = copies_valued result front (written_params whole)
      (passed_actions (passing names whole) named 0 0 ys) inner in
      subst (λ x. ActionValued (opened (numbers_from front (length (copied_params whole)))
      (numbers_from named (length (hidden_of names b.action)))
      (param_copies result front (written_params whole)) (passed_action (passing names whole) named x)))
      (sym ok.block.3) (tt, tt, copies)

-- ---- parameters

adjusted_passed : (t : Ty) → is_stored (passed t) ≡ is_stored t
adjusted_passed (Function r ps) = function_cases (λ u. is_stored u ≡ true) (λ q qs. refl) r ps
adjusted_passed t = refl

abbrev AllPlain : List Variable → Type 0
AllPlain [] = Unit {0}
AllPlain (v ∷ vs) = (is_stored v.of ≡ false) × AllPlain vs

-- the first of two lists, and some of the second
plain_then : (xs zs : List Variable) (m k : ℕ) (v : Variable) → AllPlain xs → k < length xs + m →
    slice_get (xs ++ zs) k ≡ Some v →
    ((j : ℕ) → j < m → slice_get zs j ≡ Some v → is_stored v.of ≡ false) → is_stored v.of ≡ false
plain_then [] zs m k v h l e g = g k (omega (arith, l)) e
plain_then (x ∷ xs) zs m zero v h l e g = ap (λ (v : Variable). is_stored v.of) (sym (same_Some x v e)) ∙ h.0
plain_then (x ∷ xs) zs m (suc k) v h l e g = plain_then xs zs m k v h.1 (omega (arith, l)) e g

both_plain : (xs ys : List Variable) → AllPlain xs → AllPlain ys → AllPlain (xs ++ ys)
both_plain [] ys h g = g
both_plain (x ∷ xs) ys h g = (h.0, both_plain xs ys h.1 g)

result_plain : (f : Rattle.c_tree.specs.Terms.Routine) (t : Ty) → AllPlain (map (result_variable f) (result_types t))
result_plain f (Function r ps) = by (by_pointer r)
  where
    by : (b : Bool) → AllPlain (map (result_variable f) (if b then Pointer (bare r) ∷ [] else []))
    by true = (refl, tt)
    by false = tt
result_plain f t = tt

passed_plain : (v : Variable) → is_stored v.of ≡ false →
    (let w : Variable = passed_param v in is_stored w.of) ≡ false
passed_plain v h = by (by_pointer v.of)
  where
    by : (b : Bool) → (let w : Variable = (if b then record v { of = Pointer (bare v.of); simple = true }
        else passed_variable v) in is_stored w.of) ≡ false
    by true = refl
    by false = adjusted_passed v.of ∙ h

passed_all : (n : ℕ) (vs : List Variable) →
    ((k : ℕ) (v : Variable) → k < n → slice_get vs k ≡ Some v → is_stored v.of ≡ false) → n ≤ length vs →
    AllPlain (map passed_param (take n vs)) × (length (map passed_param (take n vs)) ≡ n)
passed_all zero vs h l = (tt, refl)
passed_all (suc n) [] h l = absurd (omega (arith, l))
passed_all (suc n) (v ∷ vs) h l =
    let r = passed_all n vs (λ k w lt e. h (suc k) w (omega (arith, lt)) e) (omega (arith, l)) in
    ((passed_plain v (h 0 v (omega arith) refl), r.0), ap suc r.1)

params_there : (ts : Tys) (vs : List LocalState) → ParamsFit ts vs → count ts ≤ length vs
params_there no_types vs h = omega arith
params_there (also t ts) [] h = absurd h
params_there (also t ts) (v ∷ vs) h = omega (arith, params_there ts vs h.1)

length-mapped : {A B : Type 0} (f : A → B) (xs : List A) → length (map f xs) ≡ length xs
length-mapped f [] = refl
length-mapped f (x ∷ xs) = ap suc (length-mapped f xs)

module _ (names : Names) (s : State) (f : RoutineState) (b : Body) (ok : BodyOk s f.of b) (plain : AreAdjusted b) where
  abbrev w : Rattle.c_tree.specs.Terms.Routine
  w = written f b

  few : length w.params ≤ length w.vars
  few =
      let a = params_there ok.takes b.vars ok.fit in
      let c : length b.params ≡ count ok.takes = ap length ok.params ∙ numbers_length 0 (count ok.takes) in
      let d = length-mapped variable_of b.vars in omega (arith, a, c, d)

  written_plain : (k : ℕ) (v : Variable) → k < length w.params → slice_get w.vars k ≡ Some v → is_stored v.of ≡ false
  written_plain k v l e =
      let u = mapped_from variable_of b.vars k v e in
      ap (λ (v : Variable). is_stored v.of) (sym u.2) ∙ plain k u.0 l u.1

  pub whole_adjusted : AreAdjusted (passed_whole names f b)
  whole_adjusted k l lt there =
      let u = mapped_from as_local (named_variables w ++ hidden_of names b.action) k l there in
      let ps = passed_all (length w.params) w.vars written_plain few in
      let rs = result_pointer w in
      let qs = map passed_param (written_params w) in
      let ds = map passed_variable (drop (length w.params) w.vars) in
      let hs = hidden_of names b.action in
      let n = numbers_length 0 (length rs + length w.params) in
      let m = length-append rs qs in
      let q = ps.1 in
      let less : k < length (rs ++ qs) + 0 = omega (arith, lt, n, m, q) in
      let one = append_assoc (rs ++ qs ++ copied_params w) ds hs
      ∙ append_assoc (rs ++ qs) (copied_params w) (ds ++ hs) in
      ap (λ (v : LocalState). is_stored v.of) (sym u.2)
      ∙ plain_then (rs ++ qs) (copied_params w ++ (ds ++ hs)) 0 k u.0 (both_plain rs qs (result_plain w w.of) ps.0) less
      (sym (ap (λ xs. slice_get xs k) one) ∙ u.1) (λ i l g. absurd (omega (arith, l)))
