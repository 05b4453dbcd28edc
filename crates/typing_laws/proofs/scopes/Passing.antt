-- The program as it is run, with structs and unions by pointers, names what is in scope.
use Rattle.std.proofs.Common.{◌≡◌, ℕ, zero, suc, ◌+◌, ◌<◌, ◌≤◌, Bool, true, false, List, [], ◌∷◌, ◌++◌, length, take}
use Rattle.std.proofs.Common.{Some, refl, sym, ap, subst, ◌∙◌, inl, inr, ⊎_elim, arith}
use Rattle.std.specs.Prelude.{◌||◌, ◌==◌}
use Rattle.std.specs.Prelude.{slice_get, map, flat_map, if◌then◌else◌}
use Rattle.std.proofs.lemmas.Bool.{cases_lt, lt-ltb}
use Rattle.std.proofs.lemmas.List.{length-append, length-map, length-take-le}
use Rattle.std.proofs.lemmas.Option.{same_Some, slice_get_within}
use Rattle.ck_base.specs.declared.positions.Pos.{Pos}
use Rattle.c_tree.specs.Types.{Ty, Pointer, Function, Tys, no_types, also, bare, is_tagged, count}
use Rattle.c_tree.specs.Terms as tree
use Rattle.c_tree.specs.Terms.{Shape, Term, Terms, term, no_terms, with_term, type_of, Form, Action, Actions, action}
use Rattle.c_tree.specs.Terms.{no_actions, with_action, Variable, Routine, numbers_from}
use Rattle.c_tree.specs.Programs.{variable_of}
use Rattle.c_tree.specs.Scopes.{LocalState, RoutineState, Body, State}
use Rattle.c_tree.specs.WellTyped.{form_vars, Inside, inside_of, outside}
use Rattle.c_tree.specs.Passed.{Names, by_pointer, passed, hidden_for, for_arguments, for_call, hidden_in}
use Rattle.c_tree.specs.Passed.{all_hidden_in}
use Rattle.c_tree.specs.Passed.{ahead, hidden_of, first_hidden_of, Passing, passed_shape, by_address, call_with}
use Rattle.c_tree.specs.Passed.{by_result, passed_term, passed_terms, passed_arguments, passed_form, one_term}
use Rattle.c_tree.specs.Passed.{given_back}
use Rattle.c_tree.specs.Passed.{passed_action, passed_actions, result_types, result_variable, result_pointer}
use Rattle.c_tree.specs.Passed.{written_params, copied_param, copied_params, named_variables, param_number}
use Rattle.c_tree.specs.Passed.{variable_number, passing, param_copy, param_copies, opened, passed_routine}
use Rattle.typing_laws.proofs.Facts.{TypeOk, Inv}
use Rattle.typing_laws.proofs.Scalars.{bare_bare}
use Rattle.typing_laws.proofs.Acts.{ActionOk, ActionsOk}
use Rattle.typing_laws.proofs.Wholes.{ParamsFit, with_locals, BodyOk}
use Rattle.typing_laws.proofs.Pointers.{pointer_agrees}
use Rattle.typing_laws.proofs.PassedHidden.{Holds, holds_append, holds_hidden, holds_call, ActionsHold, holds_action}
use Rattle.typing_laws.proofs.PassedHidden.{holds_first, holds_last, holds_return}
use Rattle.typing_laws.proofs.PassedVariables.{holds_body, vars_count, numbers_length}
use Rattle.typing_laws.proofs.PassedStates.{written, passed_whole}
use Rattle.typing_laws.specs.Scoping.{IsAmong, ShapeScoped, TermScoped, TermsScoped, in_values, FormScoped}
use Rattle.typing_laws.specs.Scoping.{ActionScoped}
use Rattle.typing_laws.specs.Scoping.{ActionsScoped}
use Rattle.typing_laws.proofs.scopes.Stepping.{among_left, among_right, among_either}

-- ---- numbers

in_numbers : (a n k : ℕ) → a ≤ k → k < a + n → IsAmong (numbers_from a n) k
in_numbers a zero k l m = absurd (omega (arith, l, m))
in_numbers a (suc n) k l m =
    ⊎_elim (λ b. inr (in_numbers (a + 1) n k (omega (arith, b)) (omega (arith, m)))) (λ b. inl (omega (arith, b, l)))
    (cases_lt a k)

below_numbers : (a n k : ℕ) → IsAmong (numbers_from a n) k → k < a + n
below_numbers a zero k h = absurd h
below_numbers a (suc n) k h =
    ⊎_elim (λ e. omega (arith, e)) (λ r. let l = below_numbers (a + 1) n k r in omega (arith, l)) h

map_among : (v : ℕ → ℕ) (js : List ℕ) (k : ℕ) → IsAmong js k → IsAmong (map v js) (v k)
map_among v [] k h = absurd h
map_among v (j ∷ js) k h = ⊎_elim (λ e. inl (ap v e)) (λ r. inr (map_among v js k r)) h

-- ---- expressions

module _ (names : Names) (number : ℕ → ℕ) (vars : List Variable) (first : ℕ) (given : Ty) where
  abbrev e : Passing
  e = record { names = names; number = number }

  -- variables in scope, as they are written and as they are run
  pub record Renamed (js ks : List ℕ) : Type 0 where
    pub written : (k : ℕ) → IsAmong js k → IsAmong ks (number k)
    pub hidden : (k : ℕ) → first ≤ k → k < length vars → IsAmong ks k
    pub result : by_pointer given ≡ true → IsAmong ks 0

  renamed_under : (is js ks : List ℕ) → Renamed js ks → Renamed (is ++ js) (map number is ++ ks)
  renamed_under is js ks r = record {
    written = λ k h. ⊎_elim (λ a. among_left (map number is) ks (number k) (map_among number is k a))
        (λ b. among_right (map number is) ks (number k) (r.written k b)) (among_either is js k h);
    hidden = λ k l m. among_right (map number is) ks k (r.hidden k l m);
    result = λ b. among_right (map number is) ks 0 (r.result b);
  }

  module _ (js ks : List ℕ) (r : Renamed js ks) where
    shape_renamed : (x : Shape) → ShapeScoped js x → ShapeScoped ks (passed_shape e x)
    shape_renamed (tree.Var k) h = r.written k h
    shape_renamed x h = tt

    hidden_among : (n : ℕ) (p : Pos) (t : Ty) → first ≤ n → Holds vars n (hidden_for names p t) →
        by_pointer t ≡ true → IsAmong ks n
    hidden_among n p t l z b = r.hidden n l (slice_get_within vars n _ (holds_hidden names vars n p t b z))

    called_scoped : (m : ℕ) (g : Term) (ys : Terms) (t : Ty) (p : Pos) → TermScoped ks g → TermsScoped ks ys →
        (by_pointer t ≡ true → IsAmong ks m) → TermScoped ks (call_with m g ys t p)
    called_scoped m g ys t p h k a = by (by_pointer t) refl
      where
        by : (b : Bool) → by_pointer t ≡ b → TermScoped ks (if b then by_result m g ys (bare t) p
            else term tree.Call (with_term g ys) (passed t) p)
        by true i = let c = a i in (tt, ((tt, (h, ((tt, ((c, tt), tt)), k))), ((c, tt), tt)))
        by false i = (tt, (h, k))

    argument_scoped : (m : ℕ) (y : Term) (t : Ty) (p : Pos) → TermScoped ks y →
        (by_pointer t ≡ true → IsAmong ks m) → TermScoped ks (if by_pointer t then by_address m y (bare t) p else y)
    argument_scoped m y t p h a = by (by_pointer t) refl
      where
        by : (b : Bool) → by_pointer t ≡ b → TermScoped ks (if b then by_address m y (bare t) p else y)
        by true i = let c = a i in (tt, ((tt, ((c, tt), (h, tt))), ((tt, ((c, tt), tt)), tt)))
        by false i = h

    mutual
      pub term_passed : (n : ℕ) (x : Term) → TermScoped js x → first ≤ n → Holds vars n (hidden_in names x) →
          TermScoped ks (passed_term e n x)
      term_passed n (term tree.Call (with_term f xs) t p) h l z =
          let c = holds_call names vars n f xs t p z in
          let own = n + length (hidden_in names f) in
          let inner = own + length (for_call names p xs t) in
          let m = own + length (for_arguments names p xs) in
          called_scoped m (passed_term e n f) (passed_arguments e own inner xs p) t p
          (term_passed n f h.1.0 l c.called)
          (arguments_passed own inner xs p h.1.1 (omega (arith, l)) (omega (arith, l)) c.own c.inner)
          (hidden_among m p t (omega (arith, l)) c.result)
      term_passed n (term x xs t p) h l z = (shape_renamed x h.0, terms_passed n xs h.1 l z)

      pub terms_passed : (n : ℕ) (xs : Terms) → TermsScoped js xs → first ≤ n → Holds vars n (all_hidden_in names xs) →
          TermsScoped ks (passed_terms e n xs)
      terms_passed n no_terms h l z = tt
      terms_passed n (with_term x xs) h l z =
          let c = holds_append vars n (hidden_in names x) (all_hidden_in names xs) z in (
            term_passed n x h.0 l c.0,
            terms_passed (n + length (hidden_in names x)) xs h.1 (omega (arith, l)) c.1,
          )

      arguments_passed : (own n : ℕ) (xs : Terms) (p : Pos) → TermsScoped js xs → first ≤ own → first ≤ n →
          Holds vars own (for_arguments names p xs) → Holds vars n (all_hidden_in names xs) →
          TermsScoped ks (passed_arguments e own n xs p)
      arguments_passed own n no_terms p h l m y z = tt
      arguments_passed own n (with_term x xs) p h l m y z =
          let c = holds_append vars own (hidden_for names p (type_of x)) (for_arguments names p xs) y in
          let d = holds_append vars n (hidden_in names x) (all_hidden_in names xs) z in (
            argument_scoped own (passed_term e n x) (type_of x) p (term_passed n x h.0 m d.0)
                (hidden_among own p (type_of x) l c.0),
            arguments_passed (own + length (hidden_for names p (type_of x))) (n + length (hidden_in names x)) xs p h.1
                (omega (arith, l)) (omega (arith, m)) c.1 d.1,
          )

    form_renamed : (f : Form) → FormScoped js f → FormScoped ks (passed_form e f)
    form_renamed (tree.Init k o) h = r.written k h
    form_renamed f h = tt

    values_renamed : (f : Form) → Renamed (in_values f js) (in_values (passed_form e f) ks)
    values_renamed (tree.For is n a b) = renamed_under is js ks r
    values_renamed f = r

    parts_renamed : (f : Form) → Renamed (form_vars f ++ js) (form_vars (passed_form e f) ++ ks)
    parts_renamed (tree.Block is) = renamed_under is js ks r
    parts_renamed (tree.For is n a b) = renamed_under is js ks r
    parts_renamed (tree.Switch is labels) = renamed_under is js ks r
    parts_renamed f = r

    return_passed : (n : ℕ) (x : Term) (p : Pos) → TermScoped js x → type_of x ≡ given → first ≤ n →
        Holds vars n (hidden_in names x) →
        ActionScoped ks (passed_action e n (action tree.Return (with_term x no_terms) no_actions p))
    return_passed n x p h q l z = by (by_pointer (type_of x)) refl
      where
        y : TermScoped ks (passed_term e n x)
        y = term_passed n x h l z

        by : (b : Bool) → by_pointer (type_of x) ≡ b →
            ActionScoped ks (if b then given_back (passed_term e n x) (bare (type_of x)) p
            else action tree.Return (one_term (passed_term e n x)) no_actions p)
        by true i =
            let a = r.result (ap by_pointer (sym q) ∙ i) in
            (tt, tt, ((tt, ((tt, ((tt, ((tt, ((a, tt), tt)), tt)), (y, tt))), tt), tt), ((tt, tt, tt), tt)))
        by false i = (tt, (y, tt), tt)

  -- ---- statements

  module _ (s : State) where
    mutual
      pub action_passed : (js ks : List ℕ) → Renamed js ks → (i : Inside) (n : ℕ) (x : Action) → ActionScoped js x →
          ActionOk s given i x → first ≤ n → Holds vars n (hidden_of names x) → ActionScoped ks (passed_action e n x)
      action_passed js ks r i n (action tree.Return (with_term x no_terms) no_actions p) h o l z =
          return_passed js ks r n x p h.1.0 o.1 l (holds_return names vars n x p z)
      action_passed js ks r i n (action f xs ys p) h o l z =
          let c = holds_action names vars n f xs ys p z in
          let m = n + length (first_hidden_of names (ahead f) ys) in (
            form_renamed js ks r f h.0,
            terms_passed (in_values f js) (in_values (passed_form e f) ks) (values_renamed js ks r f) m xs h.1
                (omega (arith, l)) c.0,
            actions_passed (form_vars f ++ js) (form_vars (passed_form e f) ++ ks) (parts_renamed js ks r f)
                (inside_of f i) n (ahead f) (length (all_hidden_in names xs)) ys h.2 o.2 l c.1,
          )

      pub actions_passed : (js ks : List ℕ) → Renamed js ks → (i : Inside) (n k m : ℕ) (ys : Actions) →
          ActionsScoped js ys → ActionsOk s given i ys → first ≤ n → ActionsHold names vars n k m ys →
          ActionsScoped ks (passed_actions e n k m ys)
      actions_passed js ks r i n k m no_actions h o l z = tt
      actions_passed js ks r i n (suc k) m (with_action y ys) h o l z =
          let c = holds_first names vars n k m y ys z in (
            action_passed js ks r i n y h.0 o.0 l c.0,
            actions_passed js ks r i (n + length (hidden_of names y)) k m ys h.1 o.1 (omega (arith, l)) c.1,
          )
      actions_passed js ks r i n zero m (with_action y ys) h o l z =
          let c = holds_last names vars n m y ys z in (
            action_passed js ks r i (n + m) y h.0 o.0 (omega (arith, l)) c.0,
            actions_passed js ks r i (n + m + length (hidden_of names y)) zero 0 ys h.1 o.1 (omega (arith, l)) c.1,
          )

-- ---- parameters

take_at : {A : Type 0} (n : ℕ) (xs : List A) (k : ℕ) → k < n → slice_get (take n xs) k ≡ slice_get xs k
take_at zero xs k l = absurd (omega (arith, l))
take_at (suc n) [] k l = refl
take_at (suc n) (x ∷ xs) zero l = refl
take_at (suc n) (x ∷ xs) (suc k) l = take_at n xs k (omega (arith, l))

item_at : {A : Type 0} (xs : List A) (k : ℕ) → k < length xs → (x : A) × (slice_get xs k ≡ Some x)
item_at [] k l = absurd (omega (arith, l))
item_at (x ∷ xs) zero l = (x, refl)
item_at (x ∷ xs) (suc k) l = item_at xs k (omega (arith, l))

one_copy : (v : Variable) → by_pointer v.of ≡ true → length (copied_param v) ≡ 1
one_copy v b = ap (λ b. length (if b then v ∷ [] else [])) b

no_copy : (v : Variable) → by_pointer v.of ≡ false → length (copied_param v) ≡ 0
no_copy v b = ap (λ b. length (if b then v ∷ [] else [])) b

-- there are fewer copies before a copied parameter
fewer_before : (xs : List Variable) (k : ℕ) (v : Variable) → slice_get xs k ≡ Some v → by_pointer v.of ≡ true →
    length (flat_map copied_param (take k xs)) < length (flat_map copied_param xs)
fewer_before [] k v e b = absurd cc
fewer_before (x ∷ xs) zero v e b =
    let o = one_copy x (ap (λ (x : Variable). by_pointer x.of) (same_Some x v e) ∙ b) in
    let c = length-append (copied_param x) (flat_map copied_param xs) in
    omega (arith, o, c)
fewer_before (x ∷ xs) (suc k) v e b =
    let l = fewer_before xs k v e b in
    let c = length-append (copied_param x) (flat_map copied_param xs) in
    let d = length-append (copied_param x) (flat_map copied_param (take k xs)) in
    omega (arith, l, c, d)

copies_scoped : (ks : List ℕ) (k j : ℕ) (vs : List Variable) (ys : Actions) →
    ((i : ℕ) → k ≤ i → i < k + length vs → IsAmong ks i) →
    ((i : ℕ) → j ≤ i → i < j + length (flat_map copied_param vs) → IsAmong ks i) → ActionsScoped ks ys →
    ActionsScoped ks (param_copies k j vs ys)
copies_scoped ks k j [] ys f g h = h
copies_scoped ks k j (v ∷ vs) ys f g h =
    by (by_pointer v.of) refl (copies_scoped ks (k + 1) (j + 1) vs ys) (copies_scoped ks (k + 1) j vs ys)
  where
    count : length (flat_map copied_param (v ∷ vs)) ≡ length (copied_param v) + length (flat_map copied_param vs)
    count = length-append (copied_param v) (flat_map copied_param vs)

    by : (b : Bool) → by_pointer v.of ≡ b →
        (((i : ℕ) → k + 1 ≤ i → i < k + 1 + length vs → IsAmong ks i) →
        ((i : ℕ) → j + 1 ≤ i → i < j + 1 + length (flat_map copied_param vs) → IsAmong ks i) → ActionsScoped ks ys →
        ActionsScoped ks (param_copies (k + 1) (j + 1) vs ys)) →
        (((i : ℕ) → k + 1 ≤ i → i < k + 1 + length vs → IsAmong ks i) →
        ((i : ℕ) → j ≤ i → i < j + length (flat_map copied_param vs) → IsAmong ks i) → ActionsScoped ks ys →
        ActionsScoped ks (param_copies (k + 1) j vs ys)) →
        ActionsScoped ks (if b then with_action (param_copy k j v) (param_copies (k + 1) (j + 1) vs ys)
        else param_copies (k + 1) j vs ys)
    by true i with_copy without =
        let o = one_copy v i in
        let a = f k (omega arith) (omega arith) in
        let c = g j (omega arith) (omega (arith, o, count)) in (
          (c, ((tt, ((tt, ((tt, ((a, tt), tt)), tt)), tt)), tt), tt),
          with_copy (λ n l m. f n (omega (arith, l)) (omega (arith, m)))
              (λ n l m. g n (omega (arith, l)) (omega (arith, m, o, count))) h,
        )
    by false i with_copy without =
        let o = no_copy v i in
        without (λ n l m. f n (omega (arith, l)) (omega (arith, m))) (λ n l m. g n l (omega (arith, m, o, count))) h

-- ---- functions

module _ (names : Names) (s : State) (i : Inv true s) (f : RoutineState) (b : Body) (ok : BodyOk s f.of b)
    (typed : TypeOk s.tags f.of) (scoped : ActionScoped b.params b.action) where
  abbrev whole : Routine
  whole = written f b

  abbrev vars : List Variable
  vars = (passed_routine names whole).vars

  abbrev result : ℕ
  result = length (result_pointer whole)

  abbrev front : ℕ
  front = result + length whole.params

  abbrev named : ℕ
  named = length (named_variables whole)

  abbrev copied : List ℕ
  copied = numbers_from front (length (copied_params whole))

  abbrev unnamed : List ℕ
  unnamed = numbers_from named (length (hidden_of names b.action))

  abbrev bs : List ℕ
  bs = ok.block.0

  abbrev number : ℕ → ℕ
  number = variable_number whole

  abbrev block : List ℕ
  block = copied ++ map number bs ++ unnamed

  abbrev ks : List ℕ
  ks = block ++ numbers_from 0 front

  in_copied : (k : ℕ) → IsAmong copied k → IsAmong ks k
  in_copied k h =
      among_left block (numbers_from 0 front) k (among_left (copied ++ map number bs) unnamed k
      (among_left copied (map number bs) k h))

  in_block : (k : ℕ) → IsAmong (map number bs) k → IsAmong ks k
  in_block k h =
      among_left block (numbers_from 0 front) k (among_left (copied ++ map number bs) unnamed k
      (among_right copied (map number bs) k h))

  in_hidden : (k : ℕ) → IsAmong unnamed k → IsAmong ks k
  in_hidden k h = among_left block (numbers_from 0 front) k (among_right (copied ++ map number bs) unnamed k h)

  in_front : (k : ℕ) → k < front → IsAmong ks k
  in_front k l = among_right block (numbers_from 0 front) k (in_numbers 0 front k (omega arith) (omega (arith, l)))

  abbrev before : ℕ → ℕ
  before k = length (flat_map copied_param (take k (written_params whole)))

  parameter_among : (k : ℕ) (v : Variable) → k < length whole.params → slice_get whole.vars k ≡ Some v → (c : Bool) →
      by_pointer v.of ≡ c → IsAmong ks (number k)
  parameter_among k v l e c q =
      subst (IsAmong ks) (sym (is ∙ ap (λ c. result + (if c then length whole.params + before k else k)) q)) (by c q)
    where
      is : number k ≡ param_number whole k (Some v)
      is = ap (λ c. if c then param_number whole k (slice_get whole.vars k)
          else result + length (copied_params whole) + k) (lt-ltb k (length whole.params) l)
          ∙ ap (param_number whole k) e

      by : (c : Bool) → by_pointer v.of ≡ c → IsAmong ks (result + (if c then length whole.params + before k else k))
      by true q =
          let m = fewer_before (written_params whole) k v (take_at (length whole.params) whole.vars k l ∙ e) q in
          in_copied _ (in_numbers front (length (copied_params whole)) (result + (length whole.params + before k))
          (omega arith) (omega (arith, m)))
      by false q = in_front (result + k) (omega (arith, l))

  enough_in : (ts : Tys) (vs : List LocalState) →
      ParamsFit ts vs → count ts ≤ length vs
  enough_in no_types vs h = omega arith
  enough_in (also t ts) [] h = absurd h
  enough_in (also t ts) (v ∷ vs) h = let l = enough_in ts vs h.1 in omega (arith, l)

  params_count : length whole.params ≡ count ok.takes
  params_count = ap length ok.params ∙ numbers_length 0 (count ok.takes)

  vars_length : length whole.vars ≡ length b.vars
  vars_length = length-map b.vars variable_of

  enough : length whole.params ≤ length whole.vars
  enough = let l = enough_in ok.takes b.vars ok.fit in omega (arith, l, params_count, vars_length)

  -- the function's result by a pointer is its first parameter
  result_among : by_pointer ok.gives ≡ true → IsAmong ks 0
  result_among e =
      let signature : TypeOk s.tags (Function ok.result ok.takes) = subst (TypeOk s.tags) ok.is typed in
      let same : by_pointer ok.gives ≡ by_pointer ok.result =
      pointer_agrees (λ m n. m == n || m == 0) ok.gives (bare ok.result) ok.refined
      ∙ ap is_tagged (bare_bare s.tags ok.result signature.0) in
      let one : result ≡ 1 = ap (λ t. length (map (result_variable whole) (result_types t))) ok.is
      ∙ ap (λ c. length (map (result_variable whole) (if c then Pointer (bare ok.result) ∷ [] else []))) (sym same ∙ e)
      in
      in_front 0 (omega (arith, one))

  renamed : Renamed names number vars named ok.gives (bs ++ b.params) ks
  renamed = record {
    written = λ k h. ⊎_elim (λ a. in_block (number k) (map_among number bs k a))
        (λ a. let l = below_numbers 0 (count ok.takes) k (subst (λ js. IsAmong js k) ok.params a) in
        let v = item_at whole.vars k (omega (arith, l, enough, params_count)) in
        parameter_among k v.0 (omega (arith, l, params_count)) v.1 (by_pointer v.0.of) refl)
        (among_either bs b.params k h);
    hidden = λ k l m. in_hidden k (in_numbers named (length (hidden_of names b.action)) k l
        (let c = vars_count names whole enough in omega (arith, m, c)));
    result = result_among;
  }

  pub whole_scoped : ActionScoped (passed_whole names f b).params (passed_whole names f b).action
  whole_scoped =
      let ys = ok.block.1 in let p = ok.block.2 in
      let e = passing names whole in
      let old : ActionOk (with_locals s b.vars) ok.gives outside (action (tree.Block bs) no_terms ys p) =
      subst (ActionOk (with_locals s b.vars) ok.gives outside) ok.block.3 ok.body in
      let holds : Holds vars named (hidden_of names (action (tree.Block bs) no_terms ys p)) =
      subst (λ x. Holds vars named (hidden_of names x)) ok.block.3 (holds_body names whole enough) in
      let scope : ActionScoped b.params (action (tree.Block bs) no_terms ys p) =
      subst (ActionScoped b.params) ok.block.3 scoped in
      let parts = holds_action names vars named (tree.Block bs) no_terms ys p holds in
      let inner = actions_passed names number vars named ok.gives (with_locals s b.vars) (bs ++ b.params) ks renamed
      outside named 0 0 ys scope.2 old.2 (omega arith) parts.1 in
      let copies : ActionsScoped ks (param_copies result front (written_params whole) (passed_actions e named 0 0 ys)) =
      copies_scoped ks result front (written_params whole) (passed_actions e named 0 0 ys)
      (λ n l m. in_front n (let c = length-take-le (length whole.params) whole.vars enough
      in omega (arith, m, c)))
      (λ n l m. in_copied n (in_numbers front (length (copied_params whole)) n l m)) inner in
      subst (λ x. ActionScoped (numbers_from 0 front) (opened copied unnamed
      (param_copies result front (written_params whole)) (passed_action e named x))) (sym ok.block.3)
      (tt, tt, copies)
