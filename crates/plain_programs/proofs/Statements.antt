-- Statements without `return` of structs and unions stand for themselves.
use Rattle.std.proofs.Common.{◌≡◌, ℕ, zero, suc, ◌+◌, Bool, true, false, List, [], ◌∷◌, ◌++◌, length, map, Some, None}
use Rattle.std.proofs.Common.{refl, sym, ap, subst, ◌∙◌}
use Rattle.std.specs.Prelude.{slice_get, if◌then◌else◌}
use Rattle.ck_base.specs.declared.positions.Pos.{Pos}
use Rattle.c_tree.specs.declared.typed.StmtKind.{StmtKind}
use Rattle.c_tree.specs.declared.typed.StmtKind.TheVariants as stmts
use Rattle.c_tree.specs.declared.typed.Typed.{Typed}
use Rattle.c_tree.specs.Types.{bare}
use Rattle.c_tree.specs.Terms as tree
use Rattle.c_tree.specs.Terms.{Form, Term, Terms, terms, with_term, no_terms, type_of, Action, action, actions}
use Rattle.c_tree.specs.Terms.{with_action, no_actions}
use Rattle.c_tree.specs.Views.{terms_of, term_at, kind_action, stmt_from, no_action, actions_of, action_at, values}
use Rattle.c_tree.specs.Views.{parts, IsOrdered}
use Rattle.c_tree.specs.Passed.{Names, Passing, by_pointer, all_hidden_in, ahead, hidden_of}
use Rattle.c_tree.specs.Passed.{first_hidden_of, last_hidden_of, passed_term, passed_terms, passed_form, passed_action}
use Rattle.c_tree.specs.Passed.{passed_actions, given_back, one_term}
use Rattle.c_copy.specs.Copying.{stmt_form}
use Rattle.c_copy.proofs.Copies.{action_is}
use Rattle.plain_programs.specs.Plain.{ReturnPlain, IsPlain}
use Rattle.plain_programs.proofs.Forests.{forest_all}
use Rattle.plain_programs.proofs.Lists.{map_same}
use Rattle.plain_programs.proofs.Expressions.{SameNumbers, Stays, AllStay, all_stay, value_plain, expressions_stay}

pub record ActionStays (x : Action) : Type 0 where
  pub hides : (names : Names) → hidden_of names x ≡ []
  pub is : (e : Passing) (n : ℕ) → SameNumbers e → passed_action e n x ≡ x

-- each part of a statement does
abbrev EachStays : (ℕ → Action) → List ℕ → Type 0
EachStays go ks = (j a : ℕ) → slice_get ks j ≡ Some a → ActionStays (go a)

-- ---- lists

first_hides : (names : Names) (k : ℕ) (go : ℕ → Action) (ks : List ℕ) → EachStays go ks →
    first_hidden_of names k (actions (map go ks)) ≡ []
first_hides names zero go ks h = refl
first_hides names (suc k) go [] h = refl
first_hides names (suc k) go (a ∷ ks) h =
    ap (λ vs. vs ++ first_hidden_of names k (actions (map go ks))) ((h 0 a refl).hides names)
    ∙ first_hides names k go ks (λ j b q. h (suc j) b q)

last_hides : (names : Names) (k : ℕ) (go : ℕ → Action) (ks : List ℕ) → EachStays go ks →
    last_hidden_of names k (actions (map go ks)) ≡ []
last_hides names zero go [] h = refl
last_hides names zero go (a ∷ ks) h =
    ap (λ vs. vs ++ last_hidden_of names zero (actions (map go ks))) ((h 0 a refl).hides names)
    ∙ last_hides names zero go ks (λ j b q. h (suc j) b q)
last_hides names (suc k) go [] h = refl
last_hides names (suc k) go (a ∷ ks) h = last_hides names k go ks (λ j b q. h (suc j) b q)

parts_stay : (e : Passing) (n k m : ℕ) (go : ℕ → Action) (ks : List ℕ) → EachStays go ks → SameNumbers e →
    passed_actions e n k m (actions (map go ks)) ≡ actions (map go ks)
parts_stay e n zero m go [] h s = refl
parts_stay e n zero m go (a ∷ ks) h s =
    let next = n + m + length (hidden_of e.names (go a)) in
    ap (λ y. with_action y (passed_actions e next zero 0 (actions (map go ks)))) ((h 0 a refl).is e (n + m) s)
    ∙ ap (with_action (go a)) (parts_stay e next zero 0 go ks (λ j b q. h (suc j) b q) s)
parts_stay e n (suc k) m go [] h s = refl
parts_stay e n (suc k) m go (a ∷ ks) h s =
    let next = n + length (hidden_of e.names (go a)) in
    ap (λ y. with_action y (passed_actions e next k m (actions (map go ks)))) ((h 0 a refl).is e n s)
    ∙ ap (with_action (go a)) (parts_stay e next k m go ks (λ j b q. h (suc j) b q) s)

-- ---- statements other than `return`

abbrev returns : Form → Bool
returns tree.Return = true
returns f = false

form_same : (e : Passing) (f : Form) → SameNumbers e → passed_form e f ≡ f
form_same e (tree.Init k offset) s = ap (λ i. tree.Init i offset) (s k)
form_same e (tree.Block vars) s = ap tree.Block (map_same e.number vars (λ j k q. s k))
form_same e (tree.For vars n a b) s = ap (λ vs. tree.For vs n a b) (map_same e.number vars (λ j k q. s k))
form_same e (tree.Switch vars labels) s = ap (λ vs. tree.Switch vs labels) (map_same e.number vars (λ j k q. s k))
form_same e f s = refl

other_passed : (e : Passing) (n : ℕ) (f : Form) (xs : Terms) (go : ℕ → Action) (ks : List ℕ) (p : Pos) →
    returns f ≡ false →
    passed_action e n (action f xs (actions (map go ks)) p)
    ≡ action (passed_form e f)
    (passed_terms e (n + length (first_hidden_of e.names (ahead f) (actions (map go ks)))) xs)
    (passed_actions e n (ahead f) (length (all_hidden_in e.names xs)) (actions (map go ks))) p
other_passed e n tree.Return xs go ks p h = absurd cc
other_passed e n f xs go ks p h = refl

action_stays : (f : Form) (xs : Terms) (go : ℕ → Action) (ks : List ℕ) (p : Pos) → returns f ≡ false → AllStay xs →
    EachStays go ks → ActionStays (action f xs (actions (map go ks)) p)
action_stays f xs go ks p c all h =
    let ys = actions (map go ks) in
    record {
      hides = λ names.
          ap (λ vs. (vs ++ all_hidden_in names xs) ++ last_hidden_of names (ahead f) ys)
          (first_hides names (ahead f) go ks h)
          ∙ ap (λ vs. vs ++ last_hidden_of names (ahead f) ys) (all.hides names)
          ∙ last_hides names (ahead f) go ks h;
      is = λ e n s.
          let m = n + length (first_hidden_of e.names (ahead f) ys) in
          let l = length (all_hidden_in e.names xs) in
          other_passed e n f xs go ks p c
          ∙ ap (λ g. action g (passed_terms e m xs) (passed_actions e n (ahead f) l ys) p) (form_same e f s)
          ∙ ap (λ zs. action f zs (passed_actions e n (ahead f) l ys) p) (all.is e m s)
          ∙ ap (λ zs. action f xs zs p) (parts_stay e n (ahead f) l go ks h s);
    }

other_stays : (es : List Term) (k : StmtKind) (p : Pos) (go : ℕ → Action) → returns (stmt_form k) ≡ false →
    ((a : ℕ) → Stays (term_at es a)) → EachStays go (parts k) → ActionStays (kind_action es k p go)
other_stays es k p go c xs h =
    subst ActionStays (sym (action_is es k p go))
    (action_stays (stmt_form k) (terms (map (term_at es) (values k))) go (parts k) p c
    (all_stay (term_at es) (values k) (λ j a q. xs a)) h)

-- ---- `return`

return_stays : (x : Term) (p : Pos) → Stays x → by_pointer (type_of x) ≡ false →
    ActionStays (action tree.Return (with_term x no_terms) no_actions p)
return_stays x p h plain = record {
  hides = λ names. ap (λ vs. (vs ++ []) ++ []) (h.hides names);
  is = λ e n s.
      let y = passed_term e n x in
      ap (λ (b : Bool). if b then given_back y (bare (type_of x)) p else action tree.Return (one_term y) no_actions p)
      plain
      ∙ ap (λ z. action tree.Return (one_term z) no_actions p) (h.is e n s);
}

-- ---- each statement

abbrev ReturnFits : List Term → StmtKind → Type 0
ReturnFits es (stmts.Return (Some a)) = by_pointer (type_of (term_at es a)) ≡ false
ReturnFits es k = Unit {0}

kind_stays : (es : List Term) (k : StmtKind) (p : Pos) (go : ℕ → Action) → ((a : ℕ) → Stays (term_at es a)) →
    EachStays go (parts k) → ReturnFits es k → ActionStays (kind_action es k p go)
kind_stays es (stmts.Return None) p go xs h r = record { hides = λ names. refl; is = λ e n s. refl }
kind_stays es (stmts.Return (Some a)) p go xs h r = return_stays (term_at es a) p (xs a) r
kind_stays es k p go xs h r = other_stays es k p go refl xs h

return_fits : (p : Typed) (k : StmtKind) → ReturnPlain p k → ReturnFits (terms_of p) k
return_fits p (stmts.Return None) h = tt
return_fits p (stmts.Return (Some a)) h = value_plain p a h
return_fits p k h = tt

pub statements_stay : (p : Typed) → IsOrdered p → IsPlain p → (k : ℕ) → ActionStays (action_at (actions_of p) k)
statements_stay p o h =
    forest_all (stmt_from (terms_of p)) no_action ActionStays p.stmts
    (record { hides = λ names. refl; is = λ e n s. refl })
    (λ k d go at before inner.
    kind_stays (terms_of p) d.kind d.pos go (expressions_stay p o h) (λ j a q. inner a (o.parts_before k j a d at q))
    (return_fits p d.kind (h.returns k d at)))
