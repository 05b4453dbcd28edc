-- The hidden locals of a function as it is run: each stands at the number by which its call is written, and each is an
-- object of a type that the call gives or takes.
use Rattle.std.proofs.Common.{◌≡◌, ℕ, zero, suc, ◌+◌, Bool, true, false, List, [], ◌∷◌, ◌++◌, length, Some, refl, sym}
use Rattle.std.proofs.Common.{ap, subst, ◌∙◌, arith}
use Rattle.std.specs.Prelude.{slice_get, if◌then◌else◌}
use Rattle.std.proofs.lemmas.List.{length-append}
use Rattle.std.proofs.lemmas.Option.{same_Some}
use Rattle.ck_base.specs.declared.positions.Pos.{Pos}
use Rattle.c_tree.specs.Types.{Ty, bare}
use Rattle.c_tree.specs.Terms.{Call, Term, term, Terms, no_terms, with_term, type_of, Form, Return, Action, action}
use Rattle.c_tree.specs.Terms.{Actions, no_actions, with_action, Variable}
use Rattle.c_tree.specs.Passed.{Names, by_pointer, hidden, hidden_for, for_arguments, for_call, hidden_in}
use Rattle.c_tree.specs.Passed.{all_hidden_in, ahead, hidden_of, first_hidden_of, last_hidden_of}

-- ---- at their numbers

-- from a number on there are these variables
abbrev pub Holds : List Variable → ℕ → List Variable → Type 0
Holds vars n xs = (j : ℕ) (v : Variable) → slice_get xs j ≡ Some v → slice_get vars (n + j) ≡ Some v

pub get_left : {A : Type 0} (xs ys : List A) (k : ℕ) (x : A) → slice_get xs k ≡ Some x → slice_get (xs ++ ys) k ≡ Some x
get_left [] ys k x e = absurd cc
get_left (y ∷ xs) ys zero x e = e
get_left (y ∷ xs) ys (suc k) x e = get_left xs ys k x e

pub get_right : {A : Type 0} (xs ys : List A) (k j : ℕ) → k ≡ length xs + j → slice_get (xs ++ ys) k ≡ slice_get ys j
get_right [] ys k j e = ap (slice_get ys) (omega (arith, e))
get_right (y ∷ xs) ys zero j e = absurd (omega (arith, e))
get_right (y ∷ xs) ys (suc k) j e = get_right xs ys k j (omega (arith, e))

pub holds_append : (vars : List Variable) (n : ℕ) (xs ys : List Variable) → Holds vars n (xs ++ ys) →
    Holds vars n xs × Holds vars (n + length xs) ys
holds_append vars n xs ys h = (
  λ j v e. h j v (get_left xs ys j v e),
  λ j v e. ap (slice_get vars) (omega arith) ∙ h (length xs + j) v (get_right xs ys (length xs + j) j refl ∙ e),
)

pub holds_front : (xs ys : List Variable) → Holds (xs ++ ys) 0 xs
holds_front xs ys j v e = ap (slice_get (xs ++ ys)) (omega arith) ∙ get_left xs ys j v e

pub holds_behind : (xs ys : List Variable) → Holds (xs ++ ys) (length xs) ys
holds_behind xs ys j v e = get_right xs ys (length xs + j) j refl ∙ e

pub holds_at : (vars : List Variable) (m n : ℕ) (xs : List Variable) → m ≡ n → Holds vars m xs → Holds vars n xs
holds_at vars m n xs e h j v q = ap (λ m. slice_get vars (m + j)) (sym e) ∙ h j v q

-- what a value that goes by a pointer has
pub holds_hidden : (names : Names) (vars : List Variable) (n : ℕ) (p : Pos) (t : Ty) → by_pointer t ≡ true →
    Holds vars n (hidden_for names p t) → slice_get vars n ≡ Some (hidden names p t)
holds_hidden names vars n p t e h =
    ap (slice_get vars) (omega arith)
    ∙ h 0 (hidden names p t) (ap (λ b. slice_get (if b then hidden names p t ∷ [] else []) 0) e)

-- the parts of a call
pub record CallHolds (names : Names) (vars : List Variable) (n : ℕ) (f : Term) (xs : Terms) (t : Ty) (p : Pos) :
    Type 0 where
  pub called : Holds vars n (hidden_in names f)
  pub own : Holds vars (n + length (hidden_in names f)) (for_arguments names p xs)
  pub result : Holds vars (n + length (hidden_in names f) + length (for_arguments names p xs)) (hidden_for names p t)
  pub inner : Holds vars (n + length (hidden_in names f) + length (for_call names p xs t)) (all_hidden_in names xs)

pub holds_call : (names : Names) (vars : List Variable) (n : ℕ) (f : Term) (xs : Terms) (t : Ty) (p : Pos) →
    Holds vars n (hidden_in names (term Call (with_term f xs) t p)) → CallHolds names vars n f xs t p
holds_call names vars n f xs t p h =
    let inner = all_hidden_in names xs in
    let a = holds_append vars n (hidden_in names f ++ for_call names p xs t) inner h in
    let b = holds_append vars n (hidden_in names f) (for_call names p xs t) a.0 in
    let own = n + length (hidden_in names f) in
    let c = holds_append vars own (for_arguments names p xs) (hidden_for names p t) b.1 in
    record {
      called = b.0;
      own = c.0;
      result = c.1;
      inner = holds_at vars (n + length (hidden_in names f ++ for_call names p xs t))
          (own + length (for_call names p xs t)) inner
          (let e = length-append (hidden_in names f) (for_call names p xs t) in omega (arith, e)) a.1;
    }

-- statements, where behind the first so many stand expressions with so many hidden locals
abbrev pub ActionsHold : Names → List Variable → (n k m : ℕ) → Actions → Type 0
ActionsHold names vars n k m ys =
    Holds vars n (first_hidden_of names k ys) ×
    Holds vars (n + length (first_hidden_of names k ys) + m) (last_hidden_of names k ys)

pub holds_action : (names : Names) (vars : List Variable) (n : ℕ) (f : Form) (xs : Terms) (ys : Actions) (p : Pos) →
    Holds vars n (hidden_of names (action f xs ys p)) →
    Holds vars (n + length (first_hidden_of names (ahead f) ys)) (all_hidden_in names xs) ×
    ActionsHold names vars n (ahead f) (length (all_hidden_in names xs)) ys
holds_action names vars n f xs ys p h =
    let first = first_hidden_of names (ahead f) ys in
    let last = last_hidden_of names (ahead f) ys in
    let a = holds_append vars n (first ++ all_hidden_in names xs) last h in
    let b = holds_append vars n first (all_hidden_in names xs) a.0 in
    let e = length-append first (all_hidden_in names xs) in (
      b.1,
      (
        b.0,
        holds_at vars (n + length (first ++ all_hidden_in names xs))
            (n + length first + length (all_hidden_in names xs)) last (omega (arith, e)) a.1,
      ),
    )

pub holds_first : (names : Names) (vars : List Variable) (n k m : ℕ) (y : Action) (ys : Actions) →
    ActionsHold names vars n (suc k) m (with_action y ys) →
    Holds vars n (hidden_of names y) × ActionsHold names vars (n + length (hidden_of names y)) k m ys
holds_first names vars n k m y ys h =
    let front = first_hidden_of names k ys in
    let a = holds_append vars n (hidden_of names y) front h.0 in
    let e = length-append (hidden_of names y) front in (
      a.0,
      (
        a.1,
        holds_at vars (n + length (hidden_of names y ++ front) + m)
            (n + length (hidden_of names y) + length front + m) (last_hidden_of names k ys) (omega (arith, e)) h.1,
      ),
    )

first_none : (names : Names) (ys : Actions) → first_hidden_of names zero ys ≡ []
first_none names no_actions = refl
first_none names (with_action y ys) = refl

holds_none : (vars : List Variable) (n : ℕ) (xs : List Variable) → xs ≡ [] → Holds vars n xs
holds_none vars n xs e j v q = absurd (let r = ap (λ xs. slice_get xs j) (sym e) ∙ q in cc)

pub holds_last : (names : Names) (vars : List Variable) (n m : ℕ) (y : Action) (ys : Actions) →
    ActionsHold names vars n zero m (with_action y ys) →
    Holds vars (n + m) (hidden_of names y) × ActionsHold names vars (n + m + length (hidden_of names y)) zero 0 ys
holds_last names vars n m y ys h =
    let rest = last_hidden_of names zero ys in
    let a = holds_append vars (n + 0 + m) (hidden_of names y) rest h.1 in
    let z = first_none names ys in
    let k = n + m + length (hidden_of names y) in
    let e : length (first_hidden_of names zero ys) ≡ 0 = ap length z in (
      holds_at vars (n + 0 + m) (n + m) (hidden_of names y) (omega arith) a.0,
      (
        holds_none vars k (first_hidden_of names zero ys) z,
        holds_at vars (n + 0 + m + length (hidden_of names y)) (k + length (first_hidden_of names zero ys) + 0) rest
            (omega (arith, e)) a.1,
      ),
    )

pub holds_return : (names : Names) (vars : List Variable) (n : ℕ) (x : Term) (p : Pos) →
    Holds vars n (hidden_of names (action Return (with_term x no_terms) no_actions p)) →
    Holds vars n (hidden_in names x)
holds_return names vars n x p h =
    λ j v e. h j v (get_left (hidden_in names x ++ []) [] j v (get_left (hidden_in names x) [] j v e))

-- ---- their types

-- what goes by a pointer has a type that fits
abbrev pub Taken : (Ty → Type 0) → Ty → Type 0
Taken C t = by_pointer t ≡ true → C (bare t)

abbrev pub AllTaken : (Ty → Type 0) → Terms → Type 0
AllTaken C no_terms = Unit {0}
AllTaken C (with_term x xs) = Taken C (type_of x) × AllTaken C xs

-- what the calls in an expression give and take
abbrev mutual
  pub CallsFit : (Ty → Type 0) → Term → Type 0
  CallsFit C (term Call (with_term f xs) t p) = CallsFit C f × AllTaken C xs × Taken C t × AllCallsFit C xs
  CallsFit C (term x xs t p) = AllCallsFit C xs

  pub AllCallsFit : (Ty → Type 0) → Terms → Type 0
  AllCallsFit C no_terms = Unit {0}
  AllCallsFit C (with_term x xs) = CallsFit C x × AllCallsFit C xs

abbrev mutual
  pub ActionCalls : (Ty → Type 0) → Action → Type 0
  ActionCalls C (action f xs ys p) = AllCallsFit C xs × AllActionCalls C ys

  pub AllActionCalls : (Ty → Type 0) → Actions → Type 0
  AllActionCalls C no_actions = Unit {0}
  AllActionCalls C (with_action y ys) = ActionCalls C y × AllActionCalls C ys

-- an object of a type that fits
abbrev pub HiddenFit : (Ty → Type 0) → List Variable → Type 0
HiddenFit C vs = (j : ℕ) (v : Variable) → slice_get vs j ≡ Some v → C v.of × (v.simple ≡ false)

module _ (C : Ty → Type 0) (names : Names) where
  both_fit : (xs ys : List Variable) → HiddenFit C xs → HiddenFit C ys → HiddenFit C (xs ++ ys)
  both_fit [] ys h k j v e = k j v e
  both_fit (x ∷ xs) ys h k zero v e = h 0 v e
  both_fit (x ∷ xs) ys h k (suc j) v e = both_fit xs ys (λ j v e. h (suc j) v e) k j v e

  none_fit : HiddenFit C []
  none_fit j v e = absurd cc

  one_fits : (p : Pos) (t : Ty) → Taken C t → HiddenFit C (hidden_for names p t)
  one_fits p t h = by (by_pointer t) refl
    where
      by : (b : Bool) → by_pointer t ≡ b → HiddenFit C (if b then hidden names p t ∷ [] else [])
      by true e zero v q = let s = same_Some (hidden names p t) v q in
          (subst (λ (v : Variable). C v.of) s (h e), ap (λ (v : Variable). v.simple) (sym s))
      by true e (suc j) v q = absurd cc
      by false e j v q = absurd cc

  arguments_fit : (p : Pos) (xs : Terms) → AllTaken C xs → HiddenFit C (for_arguments names p xs)
  arguments_fit p no_terms h = none_fit
  arguments_fit p (with_term x xs) h =
      both_fit (hidden_for names p (type_of x)) (for_arguments names p xs) (one_fits p (type_of x) h.0)
      (arguments_fit p xs h.1)

  mutual
    term_hidden_fit : (x : Term) → CallsFit C x → HiddenFit C (hidden_in names x)
    term_hidden_fit (term Call (with_term f xs) t p) h =
        both_fit (hidden_in names f ++ for_call names p xs t) (all_hidden_in names xs)
        (both_fit (hidden_in names f) (for_call names p xs t) (term_hidden_fit f h.0)
        (both_fit (for_arguments names p xs) (hidden_for names p t) (arguments_fit p xs h.1) (one_fits p t h.2)))
        (terms_hidden_fit xs h.3)
    term_hidden_fit (term Call no_terms t p) h = none_fit
    term_hidden_fit (term x xs t p) h = terms_hidden_fit xs h

    terms_hidden_fit : (xs : Terms) → AllCallsFit C xs → HiddenFit C (all_hidden_in names xs)
    terms_hidden_fit no_terms h = none_fit
    terms_hidden_fit (with_term x xs) h =
        both_fit (hidden_in names x) (all_hidden_in names xs) (term_hidden_fit x h.0) (terms_hidden_fit xs h.1)

  mutual
    pub hidden_fit : (x : Action) → ActionCalls C x → HiddenFit C (hidden_of names x)
    hidden_fit (action f xs ys p) h =
        both_fit (first_hidden_of names (ahead f) ys ++ all_hidden_in names xs) (last_hidden_of names (ahead f) ys)
        (both_fit (first_hidden_of names (ahead f) ys) (all_hidden_in names xs) (first_fit (ahead f) ys h.1)
        (terms_hidden_fit xs h.0))
        (last_fit (ahead f) ys h.1)

    first_fit : (k : ℕ) (ys : Actions) → AllActionCalls C ys → HiddenFit C (first_hidden_of names k ys)
    first_fit (suc k) (with_action y ys) h =
        both_fit (hidden_of names y) (first_hidden_of names k ys) (hidden_fit y h.0) (first_fit k ys h.1)
    first_fit (suc k) no_actions h = none_fit
    first_fit zero no_actions h = none_fit
    first_fit zero (with_action y ys) h = none_fit

    last_fit : (k : ℕ) (ys : Actions) → AllActionCalls C ys → HiddenFit C (last_hidden_of names k ys)
    last_fit zero no_actions h = none_fit
    last_fit (suc k) no_actions h = none_fit
    last_fit (suc k) (with_action y ys) h = last_fit k ys h.1
    last_fit zero (with_action y ys) h =
        both_fit (hidden_of names y) (last_hidden_of names zero ys) (hidden_fit y h.0) (last_fit zero ys h.1)

-- none of them is simple
mutual
  no_calls : (x : Term) → CallsFit (λ t. Unit {0}) x
  no_calls (term Call (with_term f xs) t p) = (no_calls f, none_taken xs, λ e. tt, all_no_calls xs)
  no_calls (term Call no_terms t p) = tt
  no_calls (term x xs t p) = all_no_calls xs

  none_taken : (xs : Terms) → AllTaken (λ t. Unit {0}) xs
  none_taken no_terms = tt
  none_taken (with_term x xs) = (λ e. tt, none_taken xs)

  all_no_calls : (xs : Terms) → AllCallsFit (λ t. Unit {0}) xs
  all_no_calls no_terms = tt
  all_no_calls (with_term x xs) = (no_calls x, all_no_calls xs)

mutual
  no_action_calls : (x : Action) → ActionCalls (λ t. Unit {0}) x
  no_action_calls (action f xs ys p) = (all_no_calls xs, all_no_action_calls ys)

  all_no_action_calls : (ys : Actions) → AllActionCalls (λ t. Unit {0}) ys
  all_no_action_calls no_actions = tt
  all_no_action_calls (with_action y ys) = (no_action_calls y, all_no_action_calls ys)

pub hidden_plain : (names : Names) (x : Action) (j : ℕ) (v : Variable) → slice_get (hidden_of names x) j ≡ Some v →
    v.simple ≡ false
hidden_plain names x j v e = (hidden_fit (λ t. Unit {0}) names x (no_action_calls x) j v e).1
