-- Hidden locals, and what is passed, of each item of a list.
use Rattle.std.proofs.Common.{◌≡◌, ℕ, zero, suc, ◌+◌, Bool, true, false, cond, List, [], ◌∷◌, ◌++◌, length, take, drop}
use Rattle.std.proofs.Common.{refl, sym, ap, ◌∙◌, arith, length-append}
use Rattle.std.specs.Prelude.{flat_map}
use Rattle.std.proofs.lemmas.List.{append-nil}
use Rattle.std.proofs.lemmas.Grind.{flat_map-append}
use Rattle.ck_base.specs.declared.positions.Pos.{Pos}
use Rattle.c_tree.specs.Terms.{Variable, Term, terms, with_term, type_of, Action, actions, with_action}
use Rattle.c_tree.specs.Passed.{Names, Passing, by_pointer, hidden_in, all_hidden_in, hidden_for, for_arguments}
use Rattle.c_tree.specs.Passed.{hidden_of, first_hidden_of, last_hidden_of, passed_term, passed_terms, passed_arguments}
use Rattle.c_tree.specs.Passed.{passed_action, passed_actions, param_copy, param_copies}
use Rattle.c_passing.specs.Lists.{hidden_in_each, hidden_of_each, hidden_for_each, passed_each, passed_each_action}
use Rattle.c_passing.specs.Lists.{passed_argument, passed_each_argument, copies_of}

-- ---- the definitions, over lists

pub hidden_terms : (names : Names) (xs : List Term) → all_hidden_in names (terms xs) ≡ hidden_in_each names xs
hidden_terms names [] = refl
hidden_terms names (x ∷ xs) = ap (λ vs. hidden_in names x ++ vs) (hidden_terms names xs)

pub hidden_arguments : (names : Names) (p : Pos) (xs : List Term) →
    for_arguments names p (terms xs) ≡ hidden_for_each names p xs
hidden_arguments names p [] = refl
hidden_arguments names p (x ∷ xs) = ap (λ vs. hidden_for names p (type_of x) ++ vs) (hidden_arguments names p xs)

pub first_hidden : (names : Names) (k : ℕ) (ys : List Action) →
    first_hidden_of names k (actions ys) ≡ hidden_of_each names (take k ys)
first_hidden names zero ys = refl
first_hidden names (suc k) [] = refl
first_hidden names (suc k) (y ∷ ys) = ap (λ vs. hidden_of names y ++ vs) (first_hidden names k ys)

pub last_hidden : (names : Names) (k : ℕ) (ys : List Action) →
    last_hidden_of names k (actions ys) ≡ hidden_of_each names (drop k ys)
last_hidden names zero [] = refl
last_hidden names zero (y ∷ ys) = ap (λ vs. hidden_of names y ++ vs) (last_hidden names zero ys)
last_hidden names (suc k) [] = refl
last_hidden names (suc k) (y ∷ ys) = last_hidden names k ys

pub passed_list : (e : Passing) (n : ℕ) (xs : List Term) → passed_terms e n (terms xs) ≡ terms (passed_each e n xs)
passed_list e n [] = refl
passed_list e n (x ∷ xs) =
    ap (λ ys. with_term (passed_term e n x) ys) (passed_list e (n + length (hidden_in e.names x)) xs)

pub passed_arguments_list : (e : Passing) (own n : ℕ) (p : Pos) (xs : List Term) →
    passed_arguments e own n (terms xs) p ≡ terms (passed_each_argument e own n p xs)
passed_arguments_list e own n p [] = refl
passed_arguments_list e own n p (x ∷ xs) =
    ap (λ ys. with_term (passed_argument e own n p x) ys)
    (passed_arguments_list e (own + length (hidden_for e.names p (type_of x)))
    (n + length (hidden_in e.names x)) p xs)

others_list : (e : Passing) (n m k : ℕ) (ys : List Action) → k ≡ n + m →
    passed_actions e n 0 m (actions ys) ≡ actions (passed_each_action e k ys)
others_list e n m k [] q = refl
others_list e n m k (y ∷ ys) q =
    ap (λ z. with_action (passed_action e z y) (passed_actions e (z + length (hidden_of e.names y)) 0 0 (actions ys)))
    (sym q)
    ∙ ap (λ zs. with_action (passed_action e k y) zs)
    (others_list e (k + length (hidden_of e.names y)) 0 (k + length (hidden_of e.names y)) ys (omega arith))

-- the first statements, and the others behind the expressions
pub passed_actions_list : (e : Passing) (n k m : ℕ) (ys : List Action) →
    passed_actions e n k m (actions ys) ≡ actions
    (passed_each_action e n (take k ys) ++ passed_each_action e (n + length (hidden_of_each e.names (take k ys)) + m)
    (drop k ys))
passed_actions_list e n zero m ys = others_list e n m (n + 0 + m) ys (omega arith)
passed_actions_list e n (suc k) m [] = refl
passed_actions_list e n (suc k) m (y ∷ ys) =
    let h = length (hidden_of e.names y) in
    let rest = hidden_of_each e.names (take k ys) in
    let q : n + h + length rest + m ≡ n + length (hidden_of e.names y ++ rest) + m =
    omega (arith, length-append (hidden_of e.names y) rest) in
    ap (λ zs. with_action (passed_action e n y) zs) (passed_actions_list e (n + h) k m ys)
    ∙ ap (λ z. actions (passed_action e n y ∷ (passed_each_action e (n + h) (take k ys)
    ++ passed_each_action e z (drop k ys)))) q

pub copies_list : (k j : ℕ) (vs : List Variable) (ys : List Action) →
    param_copies k j vs (actions ys) ≡ actions (copies_of k j vs ++ ys)
copies_list k j [] ys = refl
copies_list k j (v ∷ vs) ys = by (by_pointer v.of) (copies_list (k + 1) (j + 1) vs ys) (copies_list (k + 1) j vs ys)
  where
    by : (b : Bool) → param_copies (k + 1) (j + 1) vs (actions ys) ≡ actions (copies_of (k + 1) (j + 1) vs ++ ys) →
        param_copies (k + 1) j vs (actions ys) ≡ actions (copies_of (k + 1) j vs ++ ys) →
        cond b (with_action (param_copy k j v) (param_copies (k + 1) (j + 1) vs (actions ys)))
        (param_copies (k + 1) j vs (actions ys))
        ≡ actions (cond b (param_copy k j v ∷ copies_of (k + 1) (j + 1) vs) (copies_of (k + 1) j vs) ++ ys)
    by true x y = ap (λ zs. with_action (param_copy k j v) zs) x
    by false x y = y

-- ---- one item more

pub hidden_push : {A : Type 0} (f : A → List Variable) (xs : List A) (x : A) →
    flat_map f (xs ++ x ∷ []) ≡ flat_map f xs ++ f x
hidden_push f xs x = flat_map-append f xs (x ∷ []) ∙ ap (λ vs. flat_map f xs ++ vs) (append-nil (f x))

pub each_push : (e : Passing) (n m : ℕ) (xs : List Term) (x : Term) → m ≡ n + length (hidden_in_each e.names xs) →
    passed_each e n (xs ++ x ∷ []) ≡ passed_each e n xs ++ passed_term e m x ∷ []
each_push e n m [] x q = ap (λ k. passed_term e k x ∷ []) (sym (let z : m ≡ n = q ∙ omega arith in z))
each_push e n m (y ∷ ys) x q =
    ap (λ zs. passed_term e n y ∷ zs) (each_push e (n + length (hidden_in e.names y)) m ys x
    (q ∙ omega (arith, length-append (hidden_in e.names y) (hidden_in_each e.names ys))))

pub each_action_push : (e : Passing) (n m : ℕ) (xs : List Action) (x : Action) →
    m ≡ n + length (hidden_of_each e.names xs) →
    passed_each_action e n (xs ++ x ∷ []) ≡ passed_each_action e n xs ++ passed_action e m x ∷ []
each_action_push e n m [] x q = ap (λ k. passed_action e k x ∷ []) (sym (let z : m ≡ n = q ∙ omega arith in z))
each_action_push e n m (y ∷ ys) x q =
    ap (λ zs. passed_action e n y ∷ zs) (each_action_push e (n + length (hidden_of e.names y)) m ys x
    (q ∙ omega (arith, length-append (hidden_of e.names y) (hidden_of_each e.names ys))))

pub each_argument_push : (e : Passing) (own h n m : ℕ) (p : Pos) (xs : List Term) (x : Term) →
    h ≡ own + length (hidden_for_each e.names p xs) → m ≡ n + length (hidden_in_each e.names xs) →
    passed_each_argument e own n p (xs ++ x ∷ []) ≡ passed_each_argument e own n p xs ++ passed_argument e h m p x ∷ []
each_argument_push e own h n m p [] x r q =
    ap (λ k. passed_argument e k n p x ∷ []) (sym (let z : h ≡ own = r ∙ omega arith in z))
    ∙ ap (λ k. passed_argument e h k p x ∷ []) (sym (let z : m ≡ n = q ∙ omega arith in z))
each_argument_push e own h n m p (y ∷ ys) x r q =
    let a = hidden_for e.names p (type_of y) in
    let b = hidden_in e.names y in
    ap (λ zs. passed_argument e own n p y ∷ zs)
    (each_argument_push e (own + length a) h (n + length b) m p ys x
    (r ∙ omega (arith, length-append a (hidden_for_each e.names p ys)))
    (q ∙ omega (arith, length-append b (hidden_in_each e.names ys))))
