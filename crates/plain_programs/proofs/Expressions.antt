-- Expressions without calls that take or give structs and unions stand for themselves.
use Rattle.std.proofs.Common.{◌≡◌, ℕ, suc, ◌+◌, ◌<◌, Bool, true, false, List, [], ◌∷◌, ◌++◌, length, get_or, map, Some}
use Rattle.std.proofs.Common.{refl, sym, ap, subst, ◌∙◌, ⊎_elim}
use Rattle.std.specs.Prelude.{slice_get, if◌then◌else◌}
use Rattle.std.proofs.lemmas.Option.{slice_get_cases}
use Rattle.ck_base.specs.declared.positions.Pos.{Pos}
use Rattle.c_tree.specs.declared.typed.ExprKind.{ExprKind}
use Rattle.c_tree.specs.declared.typed.ExprKind.TheVariants as exprs
use Rattle.c_tree.specs.declared.typed.Typed.{Typed}
use Rattle.c_tree.specs.Types.{Ty, bare}
use Rattle.c_tree.specs.Terms as tree
use Rattle.c_tree.specs.Terms.{Shape, Term, term, Terms, terms, with_term, type_of}
use Rattle.c_tree.specs.Views.{types_of, type_at, kind_term, expr_from, no_term, terms_of, term_at, operands}
use Rattle.c_tree.specs.Views.{IsOrdered}
use Rattle.c_tree.specs.Passed.{Names, Passing, by_pointer, hidden, hidden_for, for_arguments, for_call, hidden_in}
use Rattle.c_tree.specs.Passed.{all_hidden_in, passed, passed_shape, by_address, by_result, call_with, passed_term}
use Rattle.c_tree.specs.Passed.{passed_terms, passed_arguments}
use Rattle.c_tree.proofs.Forest.{forest_reads}
use Rattle.c_copy.specs.Copying.{expr_shape}
use Rattle.c_copy.proofs.Copies.{kind_is, past_end}
use Rattle.passing_steps.specs.Numbered.{type_in}
use Rattle.plain_programs.specs.Plain.{ValuePlain, CallPlain, IsPlain}
use Rattle.plain_programs.proofs.Forests.{forest_all}
use Rattle.plain_programs.proofs.TypeLaws.{types_stay}

-- each variable keeps its number
abbrev pub SameNumbers : Passing → Type 0
SameNumbers e = (k : ℕ) → e.number k ≡ k

-- there are no hidden locals, and what is run is what is written
pub record Stays (x : Term) : Type 0 where
  pub hides : (names : Names) → hidden_in names x ≡ []
  pub is : (e : Passing) (n : ℕ) → SameNumbers e → passed_term e n x ≡ x

pub record AllStay (xs : Terms) : Type 0 where
  pub hides : (names : Names) → all_hidden_in names xs ≡ []
  pub is : (e : Passing) (n : ℕ) → SameNumbers e → passed_terms e n xs ≡ xs

-- the same of the arguments of a call
record ArgumentsStay (xs : Terms) : Type 0 where
  hides : (names : Names) (p : Pos) → for_arguments names p xs ≡ []
  is : (e : Passing) (own n : ℕ) (p : Pos) → SameNumbers e → passed_arguments e own n xs p ≡ xs

-- ---- lists

pub all_stay : (go : ℕ → Term) (ks : List ℕ) → ((j a : ℕ) → slice_get ks j ≡ Some a → Stays (go a)) →
    AllStay (terms (map go ks))
all_stay go [] h = record { hides = λ names. refl; is = λ e n s. refl }
all_stay go (k ∷ ks) h =
    let x = h 0 k refl in
    let rest = all_stay go ks (λ j a q. h (suc j) a q) in
    let xs = terms (map go ks) in
    record {
      hides = λ names. ap (λ vs. vs ++ all_hidden_in names xs) (x.hides names) ∙ rest.hides names;
      is = λ e n s.
          let m = n + length (hidden_in e.names (go k)) in
          ap (λ y. with_term y (passed_terms e m xs)) (x.is e n s) ∙ ap (with_term (go k)) (rest.is e m s);
    }

arguments_stay : (go : ℕ → Term) (ks : List ℕ) → ((j a : ℕ) → slice_get ks j ≡ Some a → Stays (go a)) →
    ((j a : ℕ) → slice_get ks j ≡ Some a → by_pointer (type_of (go a)) ≡ false) → ArgumentsStay (terms (map go ks))
arguments_stay go [] h n = record { hides = λ names p. refl; is = λ e own m p s. refl }
arguments_stay go (k ∷ ks) h n =
    let x = h 0 k refl in
    let t = type_of (go k) in
    let plain : by_pointer t ≡ false = n 0 k refl in
    let rest = arguments_stay go ks (λ j a q. h (suc j) a q) (λ j a q. n (suc j) a q) in
    let xs = terms (map go ks) in
    record {
      hides = λ names p.
          ap (λ (b : Bool). (if b then hidden names p t ∷ [] else []) ++ for_arguments names p xs) plain
          ∙ rest.hides names p;
      is = λ e own m p s.
          let y = passed_term e m (go k) in
          let own_next = own + length (hidden_for e.names p t) in
          let next = m + length (hidden_in e.names (go k)) in
          ap (λ (b : Bool). with_term (if b then by_address own y (bare t) p else y)
          (passed_arguments e own_next next xs p)) plain
          ∙ ap (λ z. with_term z (passed_arguments e own_next next xs p)) (x.is e m s)
          ∙ ap (with_term (go k)) (rest.is e own_next next p s);
    }

-- ---- calls

call_stays : (f : Term) (xs : Terms) (t : Ty) (p : Pos) → Stays f → AllStay xs → ArgumentsStay xs →
    by_pointer t ≡ false → passed t ≡ t → Stays (term tree.Call (with_term f xs) t p)
call_stays f xs t p g all args plain same = record {
  hides = λ names.
      ap (λ vs. (vs ++ for_call names p xs t) ++ all_hidden_in names xs) (g.hides names)
      ∙ ap (λ vs. (vs ++ hidden_for names p t) ++ all_hidden_in names xs) (args.hides names p)
      ∙ ap (λ (b : Bool). (if b then hidden names p t ∷ [] else []) ++ all_hidden_in names xs) plain
      ∙ all.hides names;
  is = λ e n s.
      let own = n + length (hidden_in e.names f) in
      let inner = own + length (for_call e.names p xs t) in
      let h = own + length (for_arguments e.names p xs) in
      ap (λ y. call_with h y (passed_arguments e own inner xs p) t p) (g.is e n s)
      ∙ ap (λ ys. call_with h f ys t p) (args.is e own inner p s)
      ∙ ap (λ (b : Bool). if b then by_result h f xs (bare t) p else term tree.Call (with_term f xs) (passed t) p) plain
      ∙ ap (λ (u : Ty). term tree.Call (with_term f xs) u p) same;
}

-- ---- other expressions

abbrev calls : Shape → Bool
calls tree.Call = true
calls x = false

other_passed : (e : Passing) (n : ℕ) (x : Shape) (xs : Terms) (t : Ty) (p : Pos) → calls x ≡ false →
    passed_term e n (term x xs t p) ≡ term (passed_shape e x) (passed_terms e n xs) (passed t) p
other_passed e n tree.Call xs t p h = absurd cc
other_passed e n x xs t p h = refl

other_hidden : (names : Names) (x : Shape) (xs : Terms) (t : Ty) (p : Pos) → calls x ≡ false →
    hidden_in names (term x xs t p) ≡ all_hidden_in names xs
other_hidden names tree.Call xs t p h = absurd cc
other_hidden names x xs t p h = refl

shape_same : (ts : List Ty) (k : ExprKind) → ((a : ℕ) → passed (type_at ts a) ≡ type_at ts a) → (e : Passing) →
    SameNumbers e → passed_shape e (expr_shape ts k) ≡ expr_shape ts k
shape_same ts (exprs.Var k) t e s = ap tree.Var (s k)
shape_same ts (exprs.Compound o a b of) t e s = ap (tree.Compound o) (t of)
shape_same ts k t e s = refl

other_stays : (ts : List Ty) (k : ExprKind) (t : Ty) (p : Pos) (go : ℕ → Term) → calls (expr_shape ts k) ≡ false →
    ((a : ℕ) → passed (type_at ts a) ≡ type_at ts a) → passed t ≡ t →
    ((j a : ℕ) → slice_get (operands k) j ≡ Some a → Stays (go a)) → Stays (kind_term ts k t p go)
other_stays ts k t p go c types same h =
    let x = expr_shape ts k in
    let xs = terms (map go (operands k)) in
    let all = all_stay go (operands k) h in
    subst Stays (sym (kind_is ts k t p go)) (record {
      hides = λ names. other_hidden names x xs t p c ∙ all.hides names;
      is = λ e n s.
          other_passed e n x xs t p c
          ∙ ap (λ y. term y (passed_terms e n xs) (passed t) p) (shape_same ts k types e s)
          ∙ ap (λ ys. term x ys (passed t) p) (all.is e n s) ∙ ap (λ (u : Ty). term x xs u p) same;
    })

-- ---- each expression

-- an argument or the result of a call, of this type, is no struct or union
abbrev CallFits : ExprKind → Ty → (ℕ → Term) → Type 0
CallFits (exprs.Call f xs) t go =
    (by_pointer t ≡ false) × ((j a : ℕ) → slice_get xs j ≡ Some a → by_pointer (type_of (go a)) ≡ false)
CallFits k t go = Unit {0}

kind_stays : (ts : List Ty) (k : ExprKind) (t : Ty) (p : Pos) (go : ℕ → Term) →
    ((a : ℕ) → passed (type_at ts a) ≡ type_at ts a) → passed t ≡ t →
    ((j a : ℕ) → slice_get (operands k) j ≡ Some a → Stays (go a)) → CallFits k t go → Stays (kind_term ts k t p go)
kind_stays ts (exprs.Call f xs) t p go types same h c =
    call_stays (go f) (terms (map go xs)) t p (h 0 f refl) (all_stay go xs (λ j a q. h (suc j) a q))
    (arguments_stay go xs (λ j a q. h (suc j) a q) c.1) c.0 same
kind_stays ts k t p go types same h c = other_stays ts k t p go refl types same h

-- the type of an expression that is no struct or union
pub value_plain : (p : Typed) (a : ℕ) → ValuePlain p a → by_pointer (type_of (term_at (terms_of p) a)) ≡ false
value_plain p a h =
    let ts = types_of p.types in
    ⊎_elim
    (λ x.
    let r = forest_reads (expr_from ts) no_term p.exprs a x.0 x.2 in
    ap (λ (y : Term). by_pointer (type_of y))
    (r.is ∙ kind_is ts x.0.kind (type_at ts x.0.of) x.0.pos (λ j. get_or r.seen j no_term))
    ∙ h x.0 x.2)
    (λ x. ap (λ (y : Term). by_pointer (type_of y)) (past_end (expr_from ts) no_term p.exprs a x.0))
    (slice_get_cases p.exprs a).1

call_fits : (p : Typed) (k : ExprKind) (of n : ℕ) (go : ℕ → Term) → CallPlain p k of →
    ((j a : ℕ) → slice_get (operands k) j ≡ Some a → a < n) →
    ((j : ℕ) → j < n → go j ≡ term_at (terms_of p) j) → CallFits k (type_in p.types of) go
call_fits p (exprs.Call f xs) of n go h below before = (
  h.0,
  λ j a q. ap (λ (x : Term). by_pointer (type_of x)) (before a (below (suc j) a q)) ∙ value_plain p a (h.1 j a q),
)
call_fits p k of n go h below before = tt

pub expressions_stay : (p : Typed) → IsOrdered p → IsPlain p → (k : ℕ) → Stays (term_at (terms_of p) k)
expressions_stay p o h =
    let ts = types_of p.types in
    let types : (a : ℕ) → passed (type_at ts a) ≡ type_at ts a = λ a. (types_stay p o h a).same in
    forest_all (expr_from ts) no_term Stays p.exprs (record { hides = λ names. refl; is = λ e n s. refl })
    (λ k e go at before inner.
    let below : (j a : ℕ) → slice_get (operands e.kind) j ≡ Some a → a < k = λ j a q. o.operands_before k j a e at q in
    kind_stays ts e.kind (type_at ts e.of) e.pos go types (types e.of) (λ j a q. inner a (below j a q))
    (call_fits p e.kind e.of k go (h.calls k e at) below before))
