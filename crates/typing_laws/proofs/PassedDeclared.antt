-- Each variable of a function as it is run, but for its parameters, is declared once in its body.
use Rattle.std.proofs.Common.{◌≡◌, ℕ, zero, suc, ◌+◌, ◌-◌, ◌<◌, ◌≤◌, Bool, true, false, List, [], ◌∷◌, ◌++◌, length}
use Rattle.std.proofs.Common.{Some, refl, sym, ap, ◌∙◌, inl, inr, ⊎_elim, arith}
use Rattle.std.specs.Prelude.{slice_get, map, ◌==◌, if◌then◌else◌}
use Rattle.std.proofs.lemmas.Bool.{cases_lt, cases_order, eq-eqb, ne_eqb, lt-ltb, le-ltb, le-leb, lt-leb}
use Rattle.std.proofs.lemmas.List.{map-append}
use Rattle.std.proofs.lemmas.List.Sums.{sum_by-cons}
use Rattle.std.proofs.lemmas.Option.{same_Some}
use Rattle.ck_base.specs.declared.positions.Pos.{Pos}
use Rattle.c_tree.specs.Types.{Ty, bare}
use Rattle.c_tree.specs.Terms as tree
use Rattle.c_tree.specs.Terms.{Term, Terms, no_terms, with_term, type_of, Form, Action, action, Actions, no_actions}
use Rattle.c_tree.specs.Terms.{with_action, Variable, Routine, numbers_from}
use Rattle.c_tree.specs.Views.{times_in}
use Rattle.c_tree.specs.WellTyped.{form_vars, declared, all_declared}
use Rattle.c_tree.specs.Passed.{Names, Passing, by_pointer, all_hidden_in, ahead, hidden_of, passed_form, passed_term}
use Rattle.c_tree.specs.Passed.{given_back, one_term, passed_action, passed_actions, result_pointer, written_params}
use Rattle.c_tree.specs.Passed.{copied_params, named_variables, passing, param_copy, param_copies, opened, passed_body}
use Rattle.c_tree.specs.Passed.{passed_routine}
use Rattle.typing_laws.proofs.Acts.{between, between_none, between_one, between_sum, times_in-append}
use Rattle.typing_laws.proofs.PassedVariables.{named_count, vars_count, other_numbered}

-- ---- what statements declare

form_declared : (e : Passing) (f : Form) → form_vars (passed_form e f) ≡ map e.number (form_vars f)
form_declared e (tree.Block vars) = refl
form_declared e (tree.For vars n a b) = refl
form_declared e (tree.Switch vars labels) = refl
form_declared e f = refl

joined : (e : Passing) (f : Form) (ks js : List ℕ) → ks ≡ map e.number js →
    form_vars (passed_form e f) ++ ks ≡ map e.number (form_vars f ++ js)
joined e f ks js h = ap (λ is. is ++ ks) (form_declared e f) ∙ ap (λ ks. map e.number (form_vars f) ++ ks) h
    ∙ sym (map-append e.number (form_vars f) js)

return_declared : (b : Bool) (y : Term) (t : Ty) (p : Pos) →
    declared (if b then given_back y t p else action tree.Return (one_term y) no_actions p) ≡ []
return_declared true y t p = refl
return_declared false y t p = refl

mutual
  pub declared_passed : (e : Passing) (n : ℕ) (x : Action) → declared (passed_action e n x) ≡ map e.number (declared x)
  declared_passed e n (action tree.Return (with_term x no_terms) no_actions p) =
      return_declared (by_pointer (type_of x)) (passed_term e n x) (bare (type_of x)) p
  declared_passed e n (action f xs ys p) =
      let k = ahead f in
      let m = length (all_hidden_in e.names xs) in
      joined e f (all_declared (passed_actions e n k m ys)) (all_declared ys) (all_declared_passed e n k m ys)

  pub all_declared_passed : (e : Passing) (n k m : ℕ) (ys : Actions) →
      all_declared (passed_actions e n k m ys) ≡ map e.number (all_declared ys)
  all_declared_passed e n zero m no_actions = refl
  all_declared_passed e n (suc k) m no_actions = refl
  all_declared_passed e n (suc k) m (with_action y ys) =
      ap (λ ks. ks ++ all_declared (passed_actions e (n + length (hidden_of e.names y)) k m ys)) (declared_passed e n y)
      ∙ ap (λ ks. map e.number (declared y) ++ ks) (all_declared_passed e (n + length (hidden_of e.names y)) k m ys)
      ∙ sym (map-append e.number (declared y) (all_declared ys))
  all_declared_passed e n zero m (with_action y ys) =
      ap (λ ks. ks ++ all_declared (passed_actions e (n + m + length (hidden_of e.names y)) zero 0 ys))
      (declared_passed e (n + m) y)
      ∙ ap (λ ks. map e.number (declared y) ++ ks)
      (all_declared_passed e (n + m + length (hidden_of e.names y)) zero 0 ys)
      ∙ sym (map-append e.number (declared y) (all_declared ys))

-- copies of parameters declare nothing
copies_declared : (k j : ℕ) (vs : List Variable) (ys : Actions) →
    all_declared (param_copies k j vs ys) ≡ all_declared ys
copies_declared k j [] ys = refl
copies_declared k j (v ∷ vs) ys =
    by (by_pointer v.of) (copies_declared (k + 1) (j + 1) vs ys) (copies_declared (k + 1) j vs ys)
  where
    by : (b : Bool) → all_declared (param_copies (k + 1) (j + 1) vs ys) ≡ all_declared ys →
        all_declared (param_copies (k + 1) j vs ys) ≡ all_declared ys →
        all_declared (if b then with_action (param_copy k j v) (param_copies (k + 1) (j + 1) vs ys)
        else param_copies (k + 1) j vs ys) ≡ all_declared ys
    by true h g = h
    by false h g = g

-- ---- how often a number is declared

abbrev one_if : Bool → ℕ
one_if b = (if b then 1 else 0)

times_cons : (k j : ℕ) (ks : List ℕ) → times_in k (j ∷ ks) ≡ one_if (j == k) + times_in k ks
times_cons k j ks = sum_by-cons (λ j. if j == k then 1 else 0) j ks

times_numbers : (a n k : ℕ) → times_in k (numbers_from a n) ≡ between a (a + n) k
times_numbers a zero k = sym (between_none a k) ∙ ap (λ b. between a b k) (omega arith)
times_numbers a (suc n) k =
    let e = times_cons k a (numbers_from (a + 1) n) in
    let h = times_numbers (a + 1) n k in
    let s = between_sum a (a + 1) (a + 1 + n) k (omega arith) (omega arith) in
    let o = between_one a k in
    let z : between a (a + 1 + n) k ≡ between a (a + suc n) k = ap (λ b. between a b k) (omega arith) in
    omega (arith, e, h, s, o, z)

-- a number that is not there is not in the list
all_from : (p : ℕ) (ks : List ℕ) → ((k : ℕ) → k < p → times_in k ks ≡ 0) → (j k : ℕ) → slice_get ks j ≡ Some k → p ≤ k
all_from p [] h j k e = absurd cc
all_from p (i ∷ ks) h zero k e =
    let s = same_Some i k e in
    ⊎_elim (λ l. absurd (let z = h k l in let c = times_cons k i ks in
    let o : one_if (i == k) ≡ 1 = ap one_if (eq-eqb i k s) in omega (arith, z, c, o))) (λ l. l) (cases_lt k p)
all_from p (i ∷ ks) h (suc j) k e =
    all_from p ks (λ k l. let z = h k l in let c = times_cons k i ks in omega (arith, z, c)) j k e

shifted : (d p : ℕ) (v : ℕ → ℕ) → ((k : ℕ) → p ≤ k → v k ≡ d + k) → (ks : List ℕ) →
    ((j k : ℕ) → slice_get ks j ≡ Some k → p ≤ k) → map v ks ≡ map (λ k. d + k) ks
shifted d p v f [] h = refl
shifted d p v f (k ∷ ks) h =
    ap (λ i. i ∷ map v ks) (f k (h 0 k refl)) ∙ ap (λ is. (d + k) ∷ is) (shifted d p v f ks (λ j k e. h (suc j) k e))

same_test : (d k j : ℕ) → (d + j == d + k) ≡ (j == k)
same_test d k j =
    ⊎_elim (λ e. eq-eqb (d + j) (d + k) (omega (arith, e)) ∙ sym (eq-eqb j k e))
    (λ w. ⊎_elim (λ l. ne_eqb (d + j) (d + k) (λ e. absurd (omega (arith, e, l)))
    ∙ sym (ne_eqb j k (λ e. absurd (omega (arith, e, l)))))
    (λ l. ne_eqb (d + j) (d + k) (λ e. absurd (omega (arith, e, l)))
    ∙ sym (ne_eqb j k (λ e. absurd (omega (arith, e, l))))) w)
    (cases_order j k)

times_shifted : (d k : ℕ) (ks : List ℕ) → times_in (d + k) (map (λ k. d + k) ks) ≡ times_in k ks
times_shifted d k [] = refl
times_shifted d k (j ∷ ks) =
    let e = times_cons (d + k) (d + j) (map (λ k. d + k) ks) in
    let c = times_cons k j ks in
    let h = times_shifted d k ks in
    let o : one_if (d + j == d + k) ≡ one_if (j == k) = ap one_if (same_test d k j) in
    omega (arith, e, c, h, o)

times_below : (d k : ℕ) (ks : List ℕ) → k < d → times_in k (map (λ k. d + k) ks) ≡ 0
times_below d k [] l = refl
times_below d k (j ∷ ks) l =
    let e = times_cons k (d + j) (map (λ k. d + k) ks) in
    let h = times_below d k ks l in
    let o : one_if (d + j == k) ≡ 0 = ap one_if (ne_eqb (d + j) k (λ e. absurd (omega (arith, e, l)))) in
    omega (arith, e, h, o)

between_shifted : (d a b k : ℕ) → between (d + a) (d + b) (d + k) ≡ between a b k
unfolding between
between_shifted d a b k =
    elim (cases_lt k a) as (λ _. between (d + a) (d + b) (d + k) ≡ between a b k) [
      | inl lt ↦ rw (lt-leb a k lt, lt-leb (d + a) (d + k) (omega arith)) refl
      | inr ge ↦ elim (cases_lt k b) as (λ _. between (d + a) (d + b) (d + k) ≡ between a b k) [
        | inl lt ↦ rw (
          le-leb a k ge,
          le-leb (d + a) (d + k) (omega arith),
          lt-ltb k b lt,
          lt-ltb (d + k) (d + b) (omega arith),
        ) refl
        | inr up ↦ rw (
          le-leb a k ge,
          le-leb (d + a) (d + k) (omega arith),
          le-ltb k b up,
          le-ltb (d + k) (d + b) (omega arith),
        ) refl
      ]
    ]

between_before : (a b k : ℕ) → k < a → between a b k ≡ 0
unfolding between
between_before a b k l = rw (lt-leb a k l) refl

-- the written variables that are declared, by their new numbers
times_renumbered : (d p w : ℕ) (v : ℕ → ℕ) → ((k : ℕ) → p ≤ k → v k ≡ d + k) → (ks : List ℕ) →
    ((k : ℕ) → times_in k ks ≡ between p w k) → (j : ℕ) → times_in j (map v ks) ≡ between (d + p) (d + w) j
times_renumbered d p w v f ks h j =
    ap (times_in j) (shifted d p v f ks (all_from p ks (λ k l. h k ∙ between_before p w k l)))
    ∙ ⊎_elim (λ l. times_below d j ks l ∙ sym (between_before (d + p) (d + w) j (omega (arith, l))))
    (λ l.
    let k = j - d in
    let is : j ≡ d + k = omega (arith, l) in
    ap (λ j. times_in j (map (λ k. d + k) ks)) is ∙ times_shifted d k ks ∙ h k ∙ sym (between_shifted d p w k)
    ∙ ap (between (d + p) (d + w)) (sym is))
    (cases_lt j d)

-- ---- the body

body_declared : (copied hidden : List ℕ) (k j : ℕ) (vs : List Variable) (e : Passing) (n : ℕ) (vars : List ℕ)
    (xs : Terms) (ys : Actions) (p : Pos) →
    declared (opened copied hidden (param_copies k j vs) (passed_action e n (action (tree.Block vars) xs ys p)))
    ≡ copied ++ map e.number vars ++ hidden ++ map e.number (all_declared ys)
body_declared copied hidden k j vs e n vars xs ys p =
    let m = length (all_hidden_in e.names xs) in
    ap (λ ks. copied ++ map e.number vars ++ hidden ++ ks)
    (copies_declared k j vs (passed_actions e n 0 m ys) ∙ all_declared_passed e n 0 m ys)

-- Each number from that behind the parameters on is declared once
pub passed_once : (names : Names) (f : Routine) → length f.params ≤ length f.vars →
    (vars : List ℕ) (xs : Terms) (ys : Actions) (p : Pos) → f.body ≡ action (tree.Block vars) xs ys p →
    ((k : ℕ) → times_in k (declared f.body) ≡ between (length f.params) (length f.vars) k) →
    (k : ℕ) → times_in k (declared (passed_body names f))
    ≡ between (length (result_pointer f) + length f.params) (length (passed_routine names f).vars) k
passed_once names f enough vars xs ys p is once k =
    let e = passing names f in
    let result = length (result_pointer f) in
    let front = result + length f.params in
    let c = length (copied_params f) in
    let d = result + c in
    let n = length (named_variables f) in
    let h = length (hidden_of names f.body) in
    let copied = numbers_from front c in
    let hidden = numbers_from n h in
    let inner = all_declared ys in
    let all : declared f.body ≡ vars ++ inner = ap declared is in
    let written : (k : ℕ) → times_in k (vars ++ inner) ≡ between (length f.params) (length f.vars) k =
    λ k. ap (times_in k) (sym all) ∙ once k in
    let new = times_renumbered d (length f.params) (length f.vars) e.number (λ k l. other_numbered names f enough k l)
    (vars ++ inner) written k in
    let split : times_in k (map e.number (vars ++ inner))
    ≡ times_in k (map e.number vars) + times_in k (map e.number inner) =
    ap (times_in k) (map-append e.number vars inner) ∙ times_in-append k (map e.number vars) (map e.number inner) in
    let body : declared (passed_body names f) ≡ copied ++ map e.number vars ++ hidden ++ map e.number inner =
    ap (λ b. declared (opened copied hidden (param_copies result front (written_params f)) (passed_action e n b))) is
    ∙ body_declared copied hidden result front (written_params f) e n vars xs ys p in
    let a = times_in-append k (copied ++ map e.number vars ++ hidden) (map e.number inner) in
    let b = times_in-append k (copied ++ map e.number vars) hidden in
    let g = times_in-append k copied (map e.number vars) in
    let tc = times_numbers front c k in
    let th = times_numbers n h k in
    let nc = named_count names f enough in
    let vc = vars_count names f enough in
    let eq_low : between (d + length f.params) (d + length f.vars) k ≡ between (front + c) n k =
    ap (λ a. between a (d + length f.vars) k) (omega arith)
    ∙ ap (λ b. between (front + c) b k) (omega (arith, nc)) in
    let s = between_sum front (front + c) n k (omega arith) (omega (arith, nc, enough)) in
    let t = between_sum front n (n + h) k (omega (arith, nc, enough)) (omega arith) in
    let end : between front (n + h) k ≡ between front (length (passed_routine names f).vars) k =
    ap (λ b. between front b k) (sym vc) in
    ap (times_in k) body ∙ omega (arith, a, b, g, split, new, tc, th, eq_low, s, t, end)
