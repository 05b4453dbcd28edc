-- What is run in place of a program does not hang on the numbers of objects and functions.
use Rattle.std.proofs.Common.{◌≡◌, ℕ, zero, suc, ◌+◌, Bool, true, false, List, [], ◌∷◌, ◌++◌, length, refl, ap, ◌∙◌}
use Rattle.std.specs.Prelude.{if◌then◌else◌}
use Rattle.ck_base.specs.declared.positions.Pos.{Pos}
use Rattle.c_tree.specs.Types.{Ty, bare}
use Rattle.c_tree.specs.Terms as tree
use Rattle.c_tree.specs.Terms.{Shape, Term, Terms, term, no_terms, with_term, type_of, Form, Action, Actions, action}
use Rattle.c_tree.specs.Terms.{no_actions, with_action, Variable}
use Rattle.c_tree.specs.Programs.{Numbers, shape_with, term_with, terms_with, action_with, actions_with}
use Rattle.c_tree.specs.Passed.{Names, Passing, by_pointer, passed, hidden_for, for_arguments, for_call, hidden_in}
use Rattle.c_tree.specs.Passed.{all_hidden_in, ahead, hidden_of, first_hidden_of, last_hidden_of, passed_shape}
use Rattle.c_tree.specs.Passed.{by_address, by_result, call_with, passed_term, passed_terms, passed_arguments}
use Rattle.c_tree.specs.Passed.{passed_form, given_back, one_term, passed_action, passed_actions, param_copy}
use Rattle.c_tree.specs.Passed.{param_copies, opened}
use Rattle.typing_laws.proofs.Numbered.{type_with}

-- ---- hidden locals

module _ (n : Numbers) (names : Names) where
  arguments_with : (p : Pos) (xs : Terms) → for_arguments names p (terms_with n xs) ≡ for_arguments names p xs
  arguments_with p no_terms = refl
  arguments_with p (with_term (term m ys u q) xs) = ap (λ vs. hidden_for names p u ++ vs) (arguments_with p xs)

  mutual
    hidden_with : (x : Term) → hidden_in names (term_with n x) ≡ hidden_in names x
    hidden_with (term tree.Call (with_term f xs) t p) =
        ap (λ vs. vs ++ for_call names p (terms_with n xs) t ++ all_hidden_in names (terms_with n xs)) (hidden_with f)
        ∙ ap (λ vs. hidden_in names f ++ (vs ++ hidden_for names p t) ++ all_hidden_in names (terms_with n xs))
        (arguments_with p xs)
        ∙ ap (λ vs. hidden_in names f ++ for_call names p xs t ++ vs) (all_hidden_with xs)
    hidden_with (term tree.Call no_terms t p) = refl
    hidden_with (term x xs t p) = all_hidden_with xs

    all_hidden_with : (xs : Terms) → all_hidden_in names (terms_with n xs) ≡ all_hidden_in names xs
    all_hidden_with no_terms = refl
    all_hidden_with (with_term x xs) =
        ap (λ vs. vs ++ all_hidden_in names (terms_with n xs)) (hidden_with x)
        ∙ ap (λ vs. hidden_in names x ++ vs) (all_hidden_with xs)

  mutual
    pub statement_hidden_with : (x : Action) → hidden_of names (action_with n x) ≡ hidden_of names x
    statement_hidden_with (action f xs ys p) =
        let k = ahead f in
        ap (λ vs. vs ++ all_hidden_in names (terms_with n xs) ++ last_hidden_of names k (actions_with n ys))
        (first_hidden_with k ys)
        ∙ ap (λ vs. first_hidden_of names k ys ++ vs ++ last_hidden_of names k (actions_with n ys)) (all_hidden_with xs)
        ∙ ap (λ vs. first_hidden_of names k ys ++ all_hidden_in names xs ++ vs) (last_hidden_with k ys)

    first_hidden_with : (k : ℕ) (ys : Actions) →
        first_hidden_of names k (actions_with n ys) ≡ first_hidden_of names k ys
    first_hidden_with zero no_actions = refl
    first_hidden_with zero (with_action y ys) = refl
    first_hidden_with (suc k) no_actions = refl
    first_hidden_with (suc k) (with_action y ys) =
        ap (λ vs. vs ++ first_hidden_of names k (actions_with n ys)) (statement_hidden_with y)
        ∙ ap (λ vs. hidden_of names y ++ vs) (first_hidden_with k ys)

    last_hidden_with : (k : ℕ) (ys : Actions) → last_hidden_of names k (actions_with n ys) ≡ last_hidden_of names k ys
    last_hidden_with zero no_actions = refl
    last_hidden_with (suc k) no_actions = refl
    last_hidden_with (suc k) (with_action y ys) = last_hidden_with k ys
    last_hidden_with zero (with_action y ys) =
        ap (λ vs. vs ++ last_hidden_of names zero (actions_with n ys)) (statement_hidden_with y)
        ∙ ap (λ vs. hidden_of names y ++ vs) (last_hidden_with zero ys)

-- ---- expressions and statements

module _ (n : Numbers) (e : Passing) where
  passed_shape_with : (x : Shape) → passed_shape e (shape_with n x) ≡ shape_with n (passed_shape e x)
  passed_shape_with (tree.Var k) = refl
  passed_shape_with (tree.Global k) = refl
  passed_shape_with (tree.Fun k) = refl
  passed_shape_with (tree.Compound o t) = refl
  passed_shape_with x = refl

  -- a call, and an argument, by how its type goes
  call_with_numbers : (b : Bool) (h : ℕ) (f : Term) (ys : Terms) (t : Ty) (p : Pos) →
      (if b then by_result h (term_with n f) (terms_with n ys) (bare t) p
      else term tree.Call (with_term (term_with n f) (terms_with n ys)) (passed t) p)
      ≡ term_with n (if b then by_result h f ys (bare t) p else term tree.Call (with_term f ys) (passed t) p)
  call_with_numbers true h f ys t p = refl
  call_with_numbers false h f ys t p = refl

  argument_with : (b : Bool) (own : ℕ) (y : Term) (t : Ty) (p : Pos) →
      (if b then by_address own (term_with n y) t p else term_with n y)
      ≡ term_with n (if b then by_address own y t p else y)
  argument_with true own y t p = refl
  argument_with false own y t p = refl

  mutual
    passed_with : (k : ℕ) (x : Term) → passed_term e k (term_with n x) ≡ term_with n (passed_term e k x)
    passed_with k (term tree.Call (with_term f xs) t p) =
        let own = k + length (hidden_in e.names f) in
        let inner = own + length (for_call e.names p xs t) in
        let h = own + length (for_arguments e.names p xs) in
        let zs = terms_with n xs in
        ap (λ (vs : List Variable). call_with (k + length vs + length (for_arguments e.names p zs))
        (passed_term e k (term_with n f)) (passed_arguments e (k + length vs)
        (k + length vs + length (for_call e.names p zs t)) zs p) t p) (hidden_with n e.names f)
        ∙ ap (λ (vs : List Variable). call_with (own + length vs) (passed_term e k (term_with n f))
        (passed_arguments e own (own + length (vs ++ hidden_for e.names p t)) zs p) t p)
        (arguments_with n e.names p xs)
        ∙ ap (λ g. call_with h g (passed_arguments e own inner zs p) t p) (passed_with k f)
        ∙ ap (λ ys. call_with h (term_with n (passed_term e k f)) ys t p) (passed_arguments_with own inner xs p)
        ∙ call_with_numbers (by_pointer t) h (passed_term e k f) (passed_arguments e own inner xs p) t p
    passed_with k (term tree.Call no_terms t p) = refl
    passed_with k (term x xs t p) =
        ap (λ ys. term (passed_shape e (shape_with n x)) ys (passed t) p) (all_passed_with k xs)
        ∙ ap (λ y. term y (terms_with n (passed_terms e k xs)) (passed t) p) (passed_shape_with x)

    all_passed_with : (k : ℕ) (xs : Terms) → passed_terms e k (terms_with n xs) ≡ terms_with n (passed_terms e k xs)
    all_passed_with k no_terms = refl
    all_passed_with k (with_term x xs) =
        ap (λ (vs : List Variable). with_term (passed_term e k (term_with n x))
        (passed_terms e (k + length vs) (terms_with n xs))) (hidden_with n e.names x)
        ∙ ap (λ y. with_term y (passed_terms e (k + length (hidden_in e.names x)) (terms_with n xs))) (passed_with k x)
        ∙ ap (λ ys. with_term (term_with n (passed_term e k x)) ys)
        (all_passed_with (k + length (hidden_in e.names x)) xs)

    passed_arguments_with : (own k : ℕ) (xs : Terms) (p : Pos) →
        passed_arguments e own k (terms_with n xs) p ≡ terms_with n (passed_arguments e own k xs p)
    passed_arguments_with own k no_terms p = refl
    passed_arguments_with own k (with_term x xs) p =
        let u = type_of x in
        let next = own + length (hidden_for e.names p u) in
        let last = k + length (hidden_in e.names x) in
        ap (λ u. with_term (if by_pointer u then by_address own (passed_term e k (term_with n x)) (bare u) p
        else passed_term e k (term_with n x))
        (passed_arguments e (own + length (hidden_for e.names p u)) (k + length (hidden_in e.names (term_with n x)))
        (terms_with n xs) p)) (type_with n x)
        ∙ ap (λ (vs : List Variable). with_term (if by_pointer u
        then by_address own (passed_term e k (term_with n x)) (bare u) p else passed_term e k (term_with n x))
        (passed_arguments e next (k + length vs) (terms_with n xs) p)) (hidden_with n e.names x)
        ∙ ap (λ y. with_term (if by_pointer u then by_address own y (bare u) p else y)
        (passed_arguments e next last (terms_with n xs) p)) (passed_with k x)
        ∙ ap (λ y. with_term y (passed_arguments e next last (terms_with n xs) p))
        (argument_with (by_pointer u) own (passed_term e k x) (bare u) p)
        ∙ ap (λ ys. with_term (term_with n (if by_pointer u then by_address own (passed_term e k x) (bare u) p
        else passed_term e k x)) ys) (passed_arguments_with next last xs p)

  return_with : (b : Bool) (y : Term) (t : Ty) (p : Pos) →
      (if b then given_back (term_with n y) t p else action tree.Return (one_term (term_with n y)) no_actions p)
      ≡ action_with n (if b then given_back y t p else action tree.Return (one_term y) no_actions p)
  return_with true y t p = refl
  return_with false y t p = refl

  mutual
    pub statement_with : (k : ℕ) (x : Action) →
        passed_action e k (action_with n x) ≡ action_with n (passed_action e k x)
    statement_with k (action tree.Return (with_term x no_terms) no_actions p) =
        ap (λ u. if by_pointer u then given_back (passed_term e k (term_with n x)) (bare u) p
        else action tree.Return (one_term (passed_term e k (term_with n x))) no_actions p) (type_with n x)
        ∙ ap (λ y. if by_pointer (type_of x) then given_back y (bare (type_of x)) p
        else action tree.Return (one_term y) no_actions p) (passed_with k x)
        ∙ return_with (by_pointer (type_of x)) (passed_term e k x) (bare (type_of x)) p
    statement_with k (action f xs ys p) =
        let a = ahead f in
        let own = k + length (first_hidden_of e.names a ys) in
        ap (λ (vs : List Variable). action (passed_form e f) (passed_terms e (k + length vs) (terms_with n xs))
        (passed_actions e k a (length (all_hidden_in e.names (terms_with n xs))) (actions_with n ys)) p)
        (first_hidden_with n e.names a ys)
        ∙ ap (λ (vs : List Variable). action (passed_form e f) (passed_terms e own (terms_with n xs))
        (passed_actions e k a (length vs) (actions_with n ys)) p) (all_hidden_with n e.names xs)
        ∙ ap (λ zs. action (passed_form e f) zs (passed_actions e k a (length (all_hidden_in e.names xs))
        (actions_with n ys)) p) (all_passed_with own xs)
        ∙ ap (λ zs. action (passed_form e f) (terms_with n (passed_terms e own xs)) zs p)
        (statements_with k a (length (all_hidden_in e.names xs)) ys)

    statements_with : (k a m : ℕ) (ys : Actions) →
        passed_actions e k a m (actions_with n ys) ≡ actions_with n (passed_actions e k a m ys)
    statements_with k zero m no_actions = refl
    statements_with k (suc a) m no_actions = refl
    statements_with k (suc a) m (with_action y ys) =
        ap (λ (vs : List Variable). with_action (passed_action e k (action_with n y))
        (passed_actions e (k + length vs) a m (actions_with n ys))) (statement_hidden_with n e.names y)
        ∙ ap (λ z. with_action z (passed_actions e (k + length (hidden_of e.names y)) a m (actions_with n ys)))
        (statement_with k y)
        ∙ ap (λ zs. with_action (action_with n (passed_action e k y)) zs)
        (statements_with (k + length (hidden_of e.names y)) a m ys)
    statements_with k zero m (with_action y ys) =
        ap (λ (vs : List Variable). with_action (passed_action e (k + m) (action_with n y))
        (passed_actions e (k + m + length vs) zero 0 (actions_with n ys))) (statement_hidden_with n e.names y)
        ∙ ap (λ z. with_action z (passed_actions e (k + m + length (hidden_of e.names y)) zero 0 (actions_with n ys)))
        (statement_with (k + m) y)
        ∙ ap (λ zs. with_action (action_with n (passed_action e (k + m) y)) zs)
        (statements_with (k + m + length (hidden_of e.names y)) zero 0 ys)

-- the copies of parameters
module _ (n : Numbers) where
  copies_with : (k j : ℕ) (vs : List Variable) (ys : Actions) →
      param_copies k j vs (actions_with n ys) ≡ actions_with n (param_copies k j vs ys)
  copies_with k j [] ys = refl
  copies_with k j (v ∷ vs) ys = by (by_pointer v.of) (copies_with (k + 1) (j + 1) vs ys) (copies_with (k + 1) j vs ys)
    where
      by : (b : Bool) → param_copies (k + 1) (j + 1) vs (actions_with n ys)
          ≡ actions_with n (param_copies (k + 1) (j + 1) vs ys) →
          param_copies (k + 1) j vs (actions_with n ys) ≡ actions_with n (param_copies (k + 1) j vs ys) →
          (if b then with_action (param_copy k j v) (param_copies (k + 1) (j + 1) vs (actions_with n ys))
          else param_copies (k + 1) j vs (actions_with n ys))
          ≡ actions_with n (if b then with_action (param_copy k j v) (param_copies (k + 1) (j + 1) vs ys)
          else param_copies (k + 1) j vs ys)
      by true h g = ap (λ zs. with_action (param_copy k j v) zs) h
      by false h g = g

  pub opened_with : (copied hidden : List ℕ) (k j : ℕ) (vs : List Variable) (x : Action) →
      opened copied hidden (param_copies k j vs) (action_with n x)
      ≡ action_with n (opened copied hidden (param_copies k j vs) x)
  opened_with copied hidden k j vs (action (tree.Block ks) xs ys p) =
      ap (λ zs. action (tree.Block (copied ++ ks ++ hidden)) (terms_with n xs) zs p) (copies_with k j vs ys)
  opened_with copied hidden k j vs (action f xs ys p) = refl
