-- Lists of expressions and statements as they are run, with one item more.
use Rattle.std.proofs.Common.{◌≡◌, ℕ, ◌+◌, ◌<◌, true, false, List, [], ◌∷◌, ◌++◌, length, get_or, take, map, Some}
use Rattle.std.proofs.Common.{None, refl, sym, ap, subst, ◌∙◌, arith, length-append, append_assoc}
use Rattle.std.specs.Prelude.{slice_get, flat_map}
use Rattle.std.proofs.lemmas.List.{append-nil}
use Rattle.ck_base.specs.declared.positions.Pos.{Pos}
use Rattle.c_tree.specs.declared.typed.Expr.{Expr}
use Rattle.c_tree.specs.declared.typed.ExprKind.{ExprKind}
use Rattle.c_tree.specs.Types.{Ty, bare}
use Rattle.c_tree.specs.Terms.{Variable, Term, type_of, Action}
use Rattle.c_tree.specs.Passed.{Names, Passing, by_pointer, hidden_in, hidden_of, hidden_for, passed_term}
use Rattle.c_tree.specs.Passed.{passed_action}
use Rattle.c_tree.specs.Views.{operands}
use Rattle.c_copy.specs.Copying.{Extends}
use Rattle.c_copy.proofs.Copies.{extends_same, extends_then}
use Rattle.passing_steps.specs.Source.{Source}
use Rattle.passing_steps.specs.Made.{Made}
use Rattle.c_passing.specs.Lists.{hidden_in_each, hidden_of_each, hidden_for_each, passed_each, passed_each_action}
use Rattle.c_passing.specs.Lists.{passed_argument, passed_each_argument}
use Rattle.c_passing.specs.Passes.{written_term, IsPassed, ArePassed, AddsTerms, AreCounted, IsKindPassed, IsMadeOf}
use Rattle.c_passing.specs.Passes.{ArePassedArguments, AddsActions, IsPassedAction, ArePassedActions}
use Rattle.c_passing.proofs.Calling.{written_of}
use Rattle.c_passing.proofs.Hiding.{hidden_push, each_push, each_action_push, each_argument_push}
use Rattle.passing_steps.specs.Ordered.{Takes}
use Rattle.passing_steps.specs.Steps.{written_type, Fits, HasTerm, Hides, IsHidden, IsByAddress}
use Rattle.passing_steps.proofs.Calling.{hides_none, hides_then, hides_vars, hides_count}
use Rattle.passing_steps.proofs.Ordering.{in_then, in_more, in_stmts}
use Rattle.passing_steps.proofs.Trees.{no_terms_have, terms_more, terms_push, actions_more, actions_push}
use Rattle.passing_steps.proofs.Counting.{map_turn}

pub hides_push : {A : Type 0} (s : Source) (a b c : Made) (f : Names → A → List Variable) (xs : List A) (x : A) →
    Hides s a b (λ names. flat_map (f names) xs) → Hides s b c (λ names. f names x) →
    Hides s a c (λ names. flat_map (f names) (xs ++ x ∷ []))
hides_push s a b c f xs x h i =
    hides_vars s a c a c (λ names. flat_map (f names) xs ++ f names x)
    (λ names. flat_map (f names) (xs ++ x ∷ [])) refl refl (λ names. sym (hidden_push (f names) xs x))
    (hides_then s a b c (λ names. flat_map (f names) xs) (λ names. f names x) h i)

-- the hidden local for one argument more
pub hides_argument : (s : Source) (a b c : Made) (p : Pos) (xs : List ℕ) (i k : ℕ) (e : Expr) → i < length xs →
    k ≡ get_or xs i 0 → slice_get s.program.now.exprs k ≡ Some e →
    Hides s a b (λ names. hidden_for_each names p (map (written_term s) (take i xs))) →
    Hides s b c (λ names. hidden_for names p (written_type s e.of)) →
    Hides s a c (λ names. hidden_for_each names p (map (written_term s) (take (i + 1) xs)))
hides_argument s a b c p xs i k e lt q g h new =
    let x = written_term s k in
    let own : Hides s b c (λ names. hidden_for names p (type_of x)) =
    subst (λ u. Hides s b c (λ names. hidden_for names p u)) (sym (written_of s k e g)) new in
    subst (λ zs. Hides s a c (λ names. hidden_for_each names p zs)) (sym (map_turn (written_term s) xs i k lt q))
    (hides_push s a b c (λ names (y : Term). hidden_for names p (type_of y)) (map (written_term s) (take i xs)) x h own)

-- ---- expressions

pub none_passed : (s : Source) (a : Made) → ArePassed s a a [] []
none_passed s a = record { count = refl; are = λ ts e fits. no_terms_have ts a.exprs.items; ordered = λ t us vs o. o }

pub passed_push : (s : Source) (a b c : Made) (xs : List Term) (x : Term) (js ls : List ℕ) (j : ℕ) →
    Hides s a b (λ names. hidden_in_each names xs) → Extends b.exprs.items c.exprs.items →
    ArePassed s a b xs js → IsPassed s b c x j → ls ≡ js ++ j ∷ [] → ArePassed s a c (xs ++ x ∷ []) ls
passed_push s a b c xs x js ls j h e p i q = record {
  count = let l = p.count in ap length q ∙ omega (arith, length-append js (j ∷ []), length-append xs (x ∷ []));
  are = λ ts g fits.
      let n = hides_count s a b (λ names. hidden_in_each names xs) ts g h fits in
      rw (each_push g (length a.vars.items) (length b.vars.items) xs x n)
      (terms_push ts c.exprs.items js ls j (passed_each g (length a.vars.items) xs)
      (passed_term g (length b.vars.items) x) q
      (terms_more ts b.exprs.items c.exprs.items js (passed_each g (length a.vars.items) xs) e (p.are ts g fits))
      (i.is ts g fits));
  ordered = λ t. in_more (length s.types.now.list.items) a b c [] [] js [] ls j (p.ordered t) (i.ordered t) q;
}

passed_turn : (s : Source) (a b c : Made) (ks : List ℕ) (i k : ℕ) (js ls : List ℕ) (j : ℕ) → i < length ks →
    k ≡ get_or ks i 0 → Hides s a b (λ names. hidden_in_each names (map (written_term s) (take i ks))) →
    Extends b.exprs.items c.exprs.items →
    ArePassed s a b (map (written_term s) (take i ks)) js → IsPassed s b c (written_term s k) j → ls ≡ js ++ j ∷ [] →
    ArePassed s a c (map (written_term s) (take (i + 1) ks)) ls
passed_turn s a b c ks i k js ls j lt q h e p n r =
    subst (λ zs. ArePassed s a c zs ls) (sym (map_turn (written_term s) ks i k lt q))
    (passed_push s a b c (map (written_term s) (take i ks)) (written_term s k) js ls j h e p n r)

hides_turn : (s : Source) (a b c : Made) (ks : List ℕ) (i k : ℕ) → i < length ks → k ≡ get_or ks i 0 →
    Hides s a b (λ names. hidden_in_each names (map (written_term s) (take i ks))) →
    Hides s b c (λ names. hidden_in names (written_term s k)) →
    Hides s a c (λ names. hidden_in_each names (map (written_term s) (take (i + 1) ks)))
hides_turn s a b c ks i k lt q h n =
    subst (λ zs. Hides s a c (λ names. hidden_in_each names zs)) (sym (map_turn (written_term s) ks i k lt q))
    (hides_push s a b c hidden_in (map (written_term s) (take i ks)) (written_term s k) h n)

-- one expression more of a list
pub terms_turn : (s : Source) (a b c : Made) (ks : List ℕ) (i k : ℕ) (js ls : List ℕ) (j : ℕ) → i < length ks →
    k ≡ get_or ks i 0 →
    AddsTerms s a b (λ names. hidden_in_each names (map (written_term s) (take i ks)))
    (ArePassed s a b (map (written_term s) (take i ks)) js) →
    AddsTerms s b c (λ names. hidden_in names (written_term s k)) (IsPassed s b c (written_term s k) j) →
    ls ≡ js ++ j ∷ [] →
    AddsTerms s a c (λ names. hidden_in_each names (map (written_term s) (take (i + 1) ks)))
    (ArePassed s a c (map (written_term s) (take (i + 1) ks)) ls)
terms_turn s a b c ks i k js ls j lt q h n r = record {
  extends = extends_then a.exprs.items b.exprs.items c.exprs.items h.extends n.extends;
  stmts = n.stmts ∙ h.stmts;
  hides = hides_turn s a b c ks i k lt q h.hides n.hides;
  is = passed_turn s a b c ks i k js ls j lt q h.hides n.extends h.is n.is r;
}

pub no_terms_add : (s : Source) (a : Made) → AddsTerms s a a (λ names. []) (ArePassed s a a [] [])
no_terms_add s a = record {
  extends = extends_same a.exprs.items;
  stmts = refl;
  hides = hides_none s a a refl;
  is = none_passed s a;
}

-- one expression
pub one_term : (s : Source) (a b : Made) (k j : ℕ) →
    AddsTerms s a b (λ names. hidden_in names (written_term s k)) (IsPassed s a b (written_term s k) j) →
    AddsTerms s a b (λ names. hidden_in_each names (map (written_term s) (k ∷ [])))
    (ArePassed s a b (map (written_term s) (k ∷ [])) (j ∷ []))
one_term s a b k j h =
    terms_turn s a a b (k ∷ []) 0 k [] (j ∷ []) j (omega arith) refl (no_terms_add s a) h refl

-- two expressions
pub two_terms : (s : Source) (a b c : Made) (k l i j : ℕ) →
    AddsTerms s a b (λ names. hidden_in names (written_term s k)) (IsPassed s a b (written_term s k) i) →
    AddsTerms s b c (λ names. hidden_in names (written_term s l)) (IsPassed s b c (written_term s l) j) →
    AddsTerms s a c (λ names. hidden_in_each names (map (written_term s) (k ∷ l ∷ [])))
    (ArePassed s a c (map (written_term s) (k ∷ l ∷ [])) (i ∷ j ∷ []))
two_terms s a b c k l i j h n =
    terms_turn s a b c (k ∷ l ∷ []) 1 l (i ∷ []) (i ∷ j ∷ []) j (omega arith) refl (one_term s a b k i h) n refl

-- a kind of expression with these operands
pub made_of : (s : Source) (a b : Made) (k d : ExprKind) (ks js : List ℕ) → operands k ≡ ks →
    AddsTerms s a b (λ names. hidden_in_each names (map (written_term s) ks))
    (ArePassed s a b (map (written_term s) ks) js) → IsKindPassed s k js d →
    AddsTerms s a b (λ names. hidden_in_each names (map (written_term s) (operands k))) (IsMadeOf s a b k d)
made_of s a b k d ks js e h w = record {
  extends = h.extends;
  stmts = h.stmts;
  hides = subst (λ zs. Hides s a b (λ names. hidden_in_each names (map (written_term s) zs))) (sym e) h.hides;
  is = record {
    made = subst (λ zs. ArePassed s a b (map (written_term s) (operands k)) zs) (sym w.operands)
        (subst (λ zs. ArePassed s a b (map (written_term s) zs) js) (sym e) h.is);
    kind = record { operands = refl; shape = w.shape };
  };
}

-- ---- arguments

pub none_counted : (s : Source) (n : ℕ) (p : Pos) → AreCounted s n p [] n
none_counted s n p = record { are = λ ts e fits. omega arith }

pub counted_same : (s : Source) (first h : ℕ) (p : Pos) (xs : List Term) (x : Term) → by_pointer (type_of x) ≡ false →
    AreCounted s first p xs h → AreCounted s first p (xs ++ x ∷ []) h
counted_same s first h p xs x n c = record {
  are = λ ts e fits.
      let none : hidden_for e.names p (type_of x) ≡ [] = rw n refl in
      let same : hidden_for_each e.names p (xs ++ x ∷ []) ≡ hidden_for_each e.names p xs =
      hidden_push (λ (y : Term). hidden_for e.names p (type_of y)) xs x
      ∙ ap (λ vs. hidden_for_each e.names p xs ++ vs) none ∙ append-nil (hidden_for_each e.names p xs) in
      c.are ts e fits ∙ ap (λ vs. first + length vs) (sym same);
}

pub counted_more : (s : Source) (first h : ℕ) (p : Pos) (xs : List Term) (x : Term) → by_pointer (type_of x) ≡ true →
    AreCounted s first p xs h → AreCounted s first p (xs ++ x ∷ []) (h + 1)
counted_more s first h p xs x b c = record {
  are = λ ts e fits.
      let own = hidden_for e.names p (type_of x) in
      let one : length own ≡ 1 = rw b refl in
      let before = hidden_for_each e.names p xs in
      let all : hidden_for_each e.names p (xs ++ x ∷ []) ≡ before ++ own =
      hidden_push (λ (y : Term). hidden_for e.names p (type_of y)) xs x in
      let now : h ≡ first + length before = c.are ts e fits in
      let count : h + 1 ≡ first + length (before ++ own) = omega (arith, length-append before own) in
      count ∙ ap (λ vs. first + length vs) (sym all);
}

no_arguments : (s : Source) (a : Made) (first : ℕ) (p : Pos) (js : List ℕ) →
    ArePassedArguments s a a first p [] js js
no_arguments s a first p js = record { are = λ ts e ys fits h. rw (append-nil ys) h; ordered = λ t us vs o. o }

pub no_arguments_add : (s : Source) (a : Made) (first : ℕ) (p : Pos) (js : List ℕ) →
    AddsTerms s a a (λ names. []) (ArePassedArguments s a a first p [] js js)
no_arguments_add s a first p js = record {
  extends = extends_same a.exprs.items;
  stmts = refl;
  hides = hides_none s a a refl;
  is = no_arguments s a first p js;
}

-- one argument more, which is made behind the value
pub arguments_push : (s : Source) (a b c : Made) (first h : ℕ) (p : Pos) (xs : List Term) (x : Term)
    (before js ls : List ℕ) (j : ℕ) → Hides s a b (λ names. hidden_in_each names xs) →
    Extends b.exprs.items c.exprs.items →
    AreCounted s first p xs h → ArePassedArguments s a b first p xs before js →
    ((ts : List Ty) (e : Passing) → Fits s ts e →
    HasTerm ts c.exprs.items j (passed_argument e h (length b.vars.items) p x)) →
    Takes s.types.now b c [] [] (j ∷ []) [] → ls ≡ js ++ j ∷ [] →
    ArePassedArguments s a c first p (xs ++ x ∷ []) before ls
arguments_push s a b c first h p xs x before js ls j hid ext cnt pas is takes q = record {
  are = λ ts e ys fits i.
      let n = length a.vars.items in
      let m = length b.vars.items in
      let old = passed_each_argument e first n p xs in
      let now = passed_argument e h m p x in
      let all : ys ++ passed_each_argument e first n p (xs ++ x ∷ []) ≡ (ys ++ old) ++ now ∷ [] =
      ap (λ zs. ys ++ zs) (each_argument_push e first h n m p xs x (cnt.are ts e fits)
      (hides_count s a b (λ names. hidden_in_each names xs) ts e hid fits))
      ∙ sym (append_assoc ys old (now ∷ [])) in
      rw all (terms_push ts c.exprs.items js ls j (ys ++ old) now q
      (terms_more ts b.exprs.items c.exprs.items js (ys ++ old) ext (pas.are ts e ys fits i)) (is ts e fits));
  ordered = λ t. in_more (length s.types.now.list.items) a b c before [] js [] ls j (pas.ordered t) (takes t) q;
}

pub argument_plainly : (s : Source) (b c : Made) (h : ℕ) (p : Pos) (x : Term) (j : ℕ) → IsPassed s b c x j →
    by_pointer (type_of x) ≡ false →
    (ts : List Ty) (e : Passing) → Fits s ts e →
    HasTerm ts c.exprs.items j (passed_argument e h (length b.vars.items) p x)
argument_plainly s b c h p x j i n = λ ts e fits. rw n (i.is ts e fits)

pub argument_by_address : (s : Source) (b c d : Made) (h : ℕ) (p : Pos) (x : Term) (t value j : ℕ) →
    IsPassed s b c x value → IsByAddress s c d h value t p j → by_pointer (type_of x) ≡ true →
    written_type s t ≡ bare (type_of x) →
    (ts : List Ty) (e : Passing) → Fits s ts e →
    HasTerm ts d.exprs.items j (passed_argument e h (length b.vars.items) p x)
argument_by_address s b c d h p x t value j i a n w =
    λ ts e fits. rw (n, ← w) (a.is ts e (passed_term e (length b.vars.items) x) fits (i.is ts e fits))

-- what holds of the arguments so far
pub record Arguments (s : Source) (old now : Made) (first : ℕ) (p : Pos) (ks : List ℕ) (i h : ℕ) (before js : List ℕ) :
    Type 0 where
  pub adds : AddsTerms s old now (λ names. hidden_in_each names (map (written_term s) (take i ks)))
      (ArePassedArguments s old now first p (map (written_term s) (take i ks)) before js)
  pub counted : AreCounted s first p (map (written_term s) (take i ks)) h

pub arguments_at : (s : Source) (a b now : Made) (first : ℕ) (p : Pos) (ks : List ℕ) (i h n : ℕ)
    (before js ls : List ℕ) → Arguments s a b first p ks i h before js → now ≡ b → n ≡ h → ls ≡ js →
    Arguments s a now first p ks i n before ls
arguments_at s a b now first p ks i h n before js ls all q r t = rw (q, r, t) all

pub arguments_plainly : (s : Source) (a b c : Made) (first : ℕ) (p : Pos) (ks : List ℕ) (i h k : ℕ) (e : Expr)
    (before js ls : List ℕ) (j : ℕ) → Arguments s a b first p ks i h before js → i < length ks → k ≡ get_or ks i 0 →
    slice_get s.program.now.exprs k ≡ Some e →
    AddsTerms s b c (λ names. hidden_in names (written_term s k)) (IsPassed s b c (written_term s k) j) →
    IsHidden s e.of None → ls ≡ js ++ j ∷ [] → Arguments s a c first p ks (i + 1) h before ls
arguments_plainly s a b c first p ks i h k e before js ls j all lt q g new none r =
    let old = all.adds in
    let x = written_term s k in
    let xs = map (written_term s) (take i ks) in
    let turn = sym (map_turn (written_term s) ks i k lt q) in
    let plain : by_pointer (type_of x) ≡ false = ap by_pointer (written_of s k e g) ∙ none in
    record {
      adds = record {
        extends = extends_then a.exprs.items b.exprs.items c.exprs.items old.extends new.extends;
        stmts = new.stmts ∙ old.stmts;
        hides = hides_turn s a b c ks i k lt q old.hides new.hides;
        is = subst (λ zs. ArePassedArguments s a c first p zs before ls) turn
            (arguments_push s a b c first h p xs x before js ls j old.hides new.extends all.counted old.is
            (argument_plainly s b c h p x j new.is plain) new.is.ordered r);
      };
      counted = subst (λ zs. AreCounted s first p zs h) turn (counted_same s first h p xs x plain all.counted);
    }

pub arguments_by_address :
    (s : Source) (a b c d : Made) (first : ℕ) (p : Pos) (ks : List ℕ) (i h k : ℕ) (e : Expr) (t value : ℕ)
    (before js ls : List ℕ) (j : ℕ) → Arguments s a b first p ks i h before js → i < length ks → k ≡ get_or ks i 0 →
    slice_get s.program.now.exprs k ≡ Some e →
    AddsTerms s b c (λ names. hidden_in names (written_term s k)) (IsPassed s b c (written_term s k) value) →
    IsHidden s e.of (Some t) → IsByAddress s c d h value t p j → ls ≡ js ++ j ∷ [] →
    Arguments s a d first p ks (i + 1) (h + 1) before ls
arguments_by_address s a b c d first p ks i h k e t value before js ls j all lt q g new some made r =
    let old = all.adds in
    let x = written_term s k in
    let xs = map (written_term s) (take i ks) in
    let turn = sym (map_turn (written_term s) ks i k lt q) in
    let type : type_of x ≡ written_type s e.of = written_of s k e g in
    let pointed : by_pointer (type_of x) ≡ true = ap by_pointer type ∙ some.0 in
    let of : written_type s t ≡ bare (type_of x) = some.1 ∙ ap bare (sym type) in
    let both = extends_then b.exprs.items c.exprs.items d.exprs.items new.extends made.extends in
    let hides : Hides s b d (λ names. hidden_in names x) =
    hides_vars s b c b d (λ names. hidden_in names x) (λ names. hidden_in names x) refl
    (ap (λ (m : Made). m.vars) made.rest) (λ names. refl) new.hides in
    record {
      adds = record {
        extends = extends_then a.exprs.items b.exprs.items d.exprs.items old.extends both;
        stmts = ap (λ (m : Made). m.stmts) made.rest ∙ new.stmts ∙ old.stmts;
        hides = hides_turn s a b d ks i k lt q old.hides hides;
        is =
            subst (λ zs. ArePassedArguments s a d first p zs before ls) turn
            (arguments_push s a b d first h p xs x before js ls j old.hides both all.counted old.is
            (argument_by_address s b c d h p x t value j new.is made pointed of)
            (λ z. in_then (length s.types.now.list.items) b c d [] [] (value ∷ []) [] (j ∷ []) [] (new.is.ordered z)
            (made.ordered z)) r);
      };
      counted = subst (λ zs. AreCounted s first p zs (h + 1)) turn (counted_more s first h p xs x pointed all.counted);
    }

-- ---- statements

pub no_actions : (s : Source) (a : Made) (js : List ℕ) → ArePassedActions s a a [] js js
no_actions s a js = record {
  count = omega arith;
  are = λ ts e ys fits h. rw (append-nil ys) h;
  ordered = λ t us vs o. o;
}

pub actions_passed_push : (s : Source) (a b c : Made) (xs : List Action) (x : Action) (before js ls : List ℕ) (j : ℕ) →
    Hides s a b (λ names. hidden_of_each names xs) →
    Extends b.exprs.items c.exprs.items → Extends b.stmts.items c.stmts.items → ArePassedActions s a b xs before js →
    IsPassedAction s b c x j → ls ≡ js ++ j ∷ [] → ArePassedActions s a c (xs ++ x ∷ []) before ls
actions_passed_push s a b c xs x before js ls j hid ext sext pas is q = record {
  count = let l = pas.count in ap length q ∙ omega (arith, length-append js (j ∷ []), length-append xs (x ∷ []));
  are = λ ts e ys fits i.
      let n = length a.vars.items in
      let m = length b.vars.items in
      let old = passed_each_action e n xs in
      let now = passed_action e m x in
      let all : ys ++ passed_each_action e n (xs ++ x ∷ []) ≡ (ys ++ old) ++ now ∷ [] =
      ap (λ zs. ys ++ zs) (each_action_push e n m xs x
      (hides_count s a b (λ names. hidden_of_each names xs) ts e hid fits))
      ∙ sym (append_assoc ys old (now ∷ [])) in
      rw all (actions_push ts c.exprs.items c.stmts.items js ls j (ys ++ old) now q
      (actions_more ts b.exprs.items c.exprs.items b.stmts.items c.stmts.items js (ys ++ old) ext sext
      (pas.are ts e ys fits i)) (is.is ts e fits));
  ordered = λ t. in_stmts (length s.types.now.list.items) a b c [] before [] js ls j (pas.ordered t) (is.ordered t) q;
}

actions_turn : (s : Source) (go : ℕ → Action) (a b c : Made) (ks : List ℕ) (i k : ℕ) (before js ls : List ℕ) (j : ℕ) →
    i < length ks → k ≡ get_or ks i 0 → Hides s a b (λ names. hidden_of_each names (map go (take i ks))) →
    Extends b.exprs.items c.exprs.items → Extends b.stmts.items c.stmts.items →
    ArePassedActions s a b (map go (take i ks)) before js →
    IsPassedAction s b c (go k) j → ls ≡ js ++ j ∷ [] →
    ArePassedActions s a c (map go (take (i + 1) ks)) before ls
actions_turn s go a b c ks i k before js ls j lt q h e f p n r =
    subst (λ zs. ArePassedActions s a c zs before ls) (sym (map_turn go ks i k lt q))
    (actions_passed_push s a b c (map go (take i ks))
    (go k) before js ls j h e f p n r)

hides_action_turn : (s : Source) (go : ℕ → Action) (a b c : Made) (ks : List ℕ) (i k : ℕ) → i < length ks →
    k ≡ get_or ks i 0 →
    Hides s a b (λ names. hidden_of_each names (map go (take i ks))) →
    Hides s b c (λ names. hidden_of names (go k)) →
    Hides s a c (λ names. hidden_of_each names (map go (take (i + 1) ks)))
hides_action_turn s go a b c ks i k lt q h n =
    subst (λ zs. Hides s a c (λ names. hidden_of_each names zs)) (sym (map_turn go ks i k lt q))
    (hides_push s a b c hidden_of (map go (take i ks)) (go k) h n)

-- one statement more of a list
pub statements_turn : (s : Source) (go : ℕ → Action) (a b c : Made) (ks : List ℕ) (i k : ℕ) (before js ls : List ℕ)
    (j : ℕ) → i < length ks → k ≡ get_or ks i 0 →
    AddsActions s a b (λ names. hidden_of_each names (map go (take i ks)))
    (ArePassedActions s a b (map go (take i ks)) before js) →
    AddsActions s b c (λ names. hidden_of names (go k)) (IsPassedAction s b c (go k) j) →
    ls ≡ js ++ j ∷ [] →
    AddsActions s a c (λ names. hidden_of_each names (map go (take (i + 1) ks)))
    (ArePassedActions s a c (map go (take (i + 1) ks)) before ls)
statements_turn s go a b c ks i k before js ls j lt q h n r = record {
  exprs = extends_then a.exprs.items b.exprs.items c.exprs.items h.exprs n.exprs;
  stmts = extends_then a.stmts.items b.stmts.items c.stmts.items h.stmts n.stmts;
  hides = hides_action_turn s go a b c ks i k lt q h.hides n.hides;
  is = actions_turn s go a b c ks i k before js ls j lt q h.hides n.exprs n.stmts h.is n.is r;
}

pub no_statements_add : (s : Source) (a : Made) (js : List ℕ) →
    AddsActions s a a (λ names. []) (ArePassedActions s a a [] js js)
no_statements_add s a js = record {
  exprs = extends_same a.exprs.items;
  stmts = extends_same a.stmts.items;
  hides = hides_none s a a refl;
  is = no_actions s a js;
}
