-- Statements as they are run.
use Rattle.std.proofs.Common.{◌≡◌, ℕ, ◌+◌, true, false, List, [], ◌∷◌, ◌++◌, length, take, drop, map, Some}
use Rattle.std.proofs.Common.{refl, ap, ◌∙◌, arith}
use Rattle.std.specs.Prelude.{slice_get}
use Rattle.ck_base.specs.declared.positions.Pos.{Pos}
use Rattle.c_tree.specs.declared.typed.Stmt.{Stmt}
use Rattle.c_tree.specs.Types.{bare}
use Rattle.c_tree.specs.Terms as tree
use Rattle.c_tree.specs.Terms.{Form, Term, terms, type_of, Action, action, actions, no_actions}
use Rattle.c_tree.specs.Views.{terms_of, stmt_from, no_action, values, parts}
use Rattle.c_tree.specs.Passed.{Names, Passing, by_pointer, hidden_of, ahead, passed_form, passed_term, passed_terms}
use Rattle.c_tree.specs.Passed.{passed_action, passed_actions, first_hidden_of, all_hidden_in, last_hidden_of}
use Rattle.c_tree.specs.Passed.{given_back, one_term}
use Rattle.c_copy.specs.Copying.{stmt_form}
use Rattle.c_copy.proofs.Copies.{action_is}
use Rattle.c_copy.proofs.Standing.{made_of_front}
use Rattle.passing_steps.specs.Source.{Source}
use Rattle.c_passing.specs.Lists.{hidden_in_each, hidden_of_each, passed_each, passed_each_action}
use Rattle.c_passing.specs.Passes.{written_term, written_action, written_before}
use Rattle.c_passing.proofs.Hiding.{hidden_terms, first_hidden, last_hidden, passed_list, passed_actions_list}

-- ---- written statements

-- a written statement is made of its expressions and its parts
pub written_action_is : (s : Source) (k : ℕ) (d : Stmt) → slice_get s.program.now.stmts k ≡ Some d →
    written_action s k ≡ action (stmt_form d.kind) (terms (map (written_term s) (values d.kind)))
    (actions (map (written_before s k) (parts d.kind))) d.pos
written_action_is s k d g =
    let es = terms_of s.program.now in
    made_of_front (stmt_from es) no_action s.program.now.stmts k d g ∙ action_is es d.kind d.pos (written_before s k)

-- ---- what is made of one

-- its hidden locals, over lists
pub hidden_action : (names : Names) (f : Form) (xs : List Term) (ys : List Action) (p : Pos) →
    hidden_of names (action f (terms xs) (actions ys) p)
    ≡ (hidden_of_each names (take (ahead f) ys) ++ hidden_in_each names xs)
    ++ hidden_of_each names (drop (ahead f) ys)
hidden_action names f xs ys p =
    ap (λ vs. (vs ++ all_hidden_in names (terms xs)) ++ last_hidden_of names (ahead f) (actions ys))
    (first_hidden names (ahead f) ys)
    ∙ ap (λ vs. (hidden_of_each names (take (ahead f) ys) ++ vs) ++ last_hidden_of names (ahead f) (actions ys))
    (hidden_terms names xs)
    ∙ ap (λ vs. (hidden_of_each names (take (ahead f) ys) ++ hidden_in_each names xs) ++ vs)
    (last_hidden names (ahead f) ys)

-- what it is as it is run, over lists
abbrev pub made_of : Passing → ℕ → Form → List Term → List Action → Pos → Action
made_of e n f xs ys p =
    let m = n + length (hidden_of_each e.names (take (ahead f) ys)) in
    action (passed_form e f) (terms (passed_each e m xs))
    (actions (passed_each_action e n (take (ahead f) ys)
    ++ passed_each_action e (m + length (hidden_in_each e.names xs)) (drop (ahead f) ys))) p

generally : (e : Passing) (n : ℕ) (f : Form) (xs : List Term) (ys : List Action) (p : Pos) →
    action (passed_form e f) (passed_terms e (n + length (first_hidden_of e.names (ahead f) (actions ys))) (terms xs))
    (passed_actions e n (ahead f) (length (all_hidden_in e.names (terms xs))) (actions ys)) p
    ≡ made_of e n f xs ys p
generally e n f xs ys p =
    let a = ahead f in
    ap (λ vs. action (passed_form e f) (passed_terms e (n + length vs) (terms xs))
    (passed_actions e n a (length (all_hidden_in e.names (terms xs))) (actions ys)) p) (first_hidden e.names a ys)
    ∙ ap (λ vs. action (passed_form e f) (passed_terms e (n + length (hidden_of_each e.names (take a ys))) (terms xs))
    (passed_actions e n a (length vs) (actions ys)) p) (hidden_terms e.names xs)
    ∙ ap (λ zs. action (passed_form e f) zs (passed_actions e n a (length (hidden_in_each e.names xs)) (actions ys)) p)
    (passed_list e (n + length (hidden_of_each e.names (take a ys))) xs)
    ∙ ap (λ zs. action (passed_form e f) (terms (passed_each e (n + length (hidden_of_each e.names (take a ys))) xs)) zs
    p) (passed_actions_list e n a (length (hidden_in_each e.names xs)) ys)

-- nothing is given back by a pointer
abbrev pub GivesPlainly : Form → List Term → Type 0
GivesPlainly f xs = (x : Term) → f ≡ tree.Return → xs ≡ x ∷ [] → by_pointer (type_of x) ≡ false

return_plainly : (e : Passing) (n : ℕ) (x : Term) (p : Pos) → by_pointer (type_of x) ≡ false →
    passed_action e n (action tree.Return (terms (x ∷ [])) no_actions p) ≡ made_of e n tree.Return (x ∷ []) [] p
return_plainly e n x p h =
    let z : n ≡ n + 0 = omega arith in
    rw h (ap (λ m. action tree.Return (one_term (passed_term e m x)) no_actions p) z)

pub action_passed_is : (e : Passing) (n : ℕ) (f : Form) (xs : List Term) (ys : List Action) (p : Pos) →
    GivesPlainly f xs → passed_action e n (action f (terms xs) (actions ys) p) ≡ made_of e n f xs ys p
action_passed_is e n tree.Return [] ys p h = generally e n tree.Return [] ys p
action_passed_is e n tree.Return (x ∷ []) [] p h = return_plainly e n x p (h x refl refl)
action_passed_is e n tree.Return (x ∷ []) (y ∷ ys) p h = generally e n tree.Return (x ∷ []) (y ∷ ys) p
action_passed_is e n tree.Return (x ∷ z ∷ xs) ys p h = generally e n tree.Return (x ∷ z ∷ xs) ys p
action_passed_is e n f xs ys p h = generally e n f xs ys p

-- a value is given back by a pointer
pub return_by_pointer : (e : Passing) (n : ℕ) (x : Term) (p : Pos) → by_pointer (type_of x) ≡ true →
    passed_action e n (action tree.Return (terms (x ∷ [])) no_actions p)
    ≡ given_back (passed_term e n x) (bare (type_of x)) p
return_by_pointer e n x p h = rw h refl
