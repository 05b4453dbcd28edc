-- The numbers of objects and functions that are defined, and terms and statements in which they stand.
use Rattle.std.proofs.Common.{◌≡◌, ℕ, zero, suc, ◌+◌, Bool, true, false, List, [], ◌∷◌, ◌++◌, Some, refl, ap, ◌∙◌}
use Rattle.std.proofs.Common.{arith}
use Rattle.std.specs.Prelude.{slice_get, flat_map, if◌then◌else◌, ◌&&◌, ◌||◌, not}
use Rattle.std.proofs.lemmas.Option.{same_Some}
use Rattle.c_tree.specs.Types.{Ty, Void, Int, Pointer, Function, Tys, no_types, also, bare, in_signature, is_function}
use Rattle.c_tree.specs.Types.{is_scalar, is_integer, is_void, compatible, count, promoted, char}
use Rattle.c_tree.specs.Terms as tree
use Rattle.c_tree.specs.Terms.{Shape, Term, Terms, term, no_terms, with_term, type_of, Form, Action, Actions, action}
use Rattle.c_tree.specs.Terms.{no_actions, with_action, Object, Variable, Routine}
use Rattle.c_tree.specs.Conversions.{is_place, is_member, designates}
use Rattle.c_tree.specs.Expressions.{is_modifiable, given_type}
use Rattle.c_tree.specs.Libraries.{Asked, Given, Of, As_argument}
use Rattle.c_tree.specs.Programs.{count_before, Numbers, shape_with, term_with, terms_with, action_with, actions_with}
use Rattle.c_tree.specs.WellTyped.{ArgumentsFit, AllAskedFit, list_of, count_of, form_vars, declared, all_declared}

-- an item that passes a test stands at the number of those before it
passed_step : {A B : Type 0} (test : A → Bool) (f : A → List B) (z : A) (w : B) (more : List B) (c : ℕ) (r : B) →
    f z ≡ w ∷ [] → test z ≡ true → slice_get more c ≡ Some r →
    slice_get (f z ++ more) (if test z then c + 1 else c) ≡ Some r
passed_step {A} {B} test f z w more c r e t h =
    let n : (if test z then c + 1 else c) ≡ suc c = ap (λ b. if b then c + 1 else c) t ∙ omega arith in
    ap (λ (ws : List B). slice_get (ws ++ more) (if test z then c + 1 else c)) e ∙ ap (slice_get (w ∷ more)) n ∙ h

failed_step : {A B : Type 0} (test : A → Bool) (f : A → List B) (z : A) (more : List B) (c : ℕ) (r : B) → f z ≡ [] →
    test z ≡ false → slice_get more c ≡ Some r → slice_get (f z ++ more) (if test z then c + 1 else c) ≡ Some r
failed_step {A} {B} test f z more c r e t h =
    ap (λ (ws : List B). slice_get (ws ++ more) (if test z then c + 1 else c)) e
    ∙ ap (slice_get more) (ap (λ b. if b then c + 1 else c) t) ∙ h

either_step : {A B : Type 0} (test : A → Bool) (f : A → List B) (y : A → B) →
    ((x : A) → test x ≡ true → f x ≡ y x ∷ []) → ((x : A) → test x ≡ false → f x ≡ []) → (b : Bool) (z : A) →
    test z ≡ b → (more : List B) (c : ℕ) (r : B) → slice_get more c ≡ Some r →
    slice_get (f z ++ more) (if test z then c + 1 else c) ≡ Some r
either_step test f y passes fails true z t more c r h = passed_step test f z (y z) more c r (passes z t) t h
either_step test f y passes fails false z t more c r h = failed_step test f z more c r (fails z t) t h

pub filtered_at : {A B : Type 0} (test : A → Bool) (f : A → List B) (y : A → B) →
    ((x : A) → test x ≡ true → f x ≡ y x ∷ []) → ((x : A) → test x ≡ false → f x ≡ []) → (xs : List A) (k : ℕ) (x : A) →
    slice_get xs k ≡ Some x → test x ≡ true → slice_get (flat_map f xs) (count_before test xs k) ≡ Some (y x)
filtered_at test f y passes fails [] k x e t = absurd cc
filtered_at {A} {B} test f y passes fails (z ∷ zs) zero x e t =
    let i = same_Some z x e in
    ap (λ (ws : List B). slice_get (ws ++ flat_map f zs) 0) (ap f i ∙ passes x t)
filtered_at test f y passes fails (z ∷ zs) (suc k) x e t =
    either_step test f y passes fails (test z) z refl (flat_map f zs) (count_before test zs k) (y x)
    (filtered_at test f y passes fails zs k x e t)

-- ---- terms with numbers

module _ (n : Numbers) where
  pub type_with : (x : Term) → type_of (term_with n x) ≡ type_of x
  type_with (term m xs t p) = refl

  pub place_with : (x : Term) → is_place (term_with n x) ≡ is_place x
  place_with (term (tree.Member k) (with_term a no_terms) t p) = place_with a
  place_with (term m xs t p) = refl

  member_with : (x : Term) → is_member (term_with n x) ≡ is_member x
  member_with (term m xs t p) = shape_member m
    where
      shape_member : (m : Shape) → is_member (term (shape_with n m) (terms_with n xs) t p) ≡ is_member (term m xs t p)
      shape_member (tree.Member k) = refl
      shape_member m = refl

  pub designates_with : (x : Term) → designates (term_with n x) ≡ designates x
  designates_with x = ap (λ b. b || is_member (term_with n x)) (place_with x)
      ∙ ap (λ b. is_place x || b) (member_with x)

  pub modifiable_with : (x : Term) → is_modifiable (term_with n x) ≡ is_modifiable x
  modifiable_with (term m xs t p) =
      ap (λ b. b && not (Rattle.c_tree.specs.Types.is_const t) && not (Rattle.c_tree.specs.Types.is_array t)
      && not (is_function t)) (place_with (term m xs t p))

  pub arguments_with : (ps : Tys) (xs : Terms) → ArgumentsFit ps xs → ArgumentsFit ps (terms_with n xs)
  arguments_with no_types no_terms h = tt
  arguments_with (also t ts) (with_term (term m ys u q) xs) h = (h.0, arguments_with ts xs h.1)
  arguments_with no_types (with_term x xs) h = absurd h
  arguments_with (also t ts) no_terms h = absurd h

  pub asked_with : (asks : List Asked) (xs : Terms) → AllAskedFit asks xs → AllAskedFit asks (terms_with n xs)
  asked_with [] no_terms h = tt
  asked_with (a ∷ rest) (with_term (term m ys u q) xs) h = (h.0, asked_with rest xs h.1)
  asked_with [] (with_term x xs) h = absurd h
  asked_with (a ∷ rest) no_terms h = absurd h

  pub given_with : (g : Given) (xs : Terms) → given_type g (list_of (terms_with n xs)) ≡ given_type g (list_of xs)
  given_with (Of t) xs = refl
  given_with As_argument no_terms = refl
  given_with As_argument (with_term (term m ys u q) xs) = refl

  pub count_with : (xs : Actions) → count_of (actions_with n xs) ≡ count_of xs
  count_with no_actions = refl
  count_with (with_action x xs) = ap (λ k. k + 1) (count_with xs)

  mutual
    pub declared_with : (x : Action) → declared (action_with n x) ≡ declared x
    declared_with (action f xs ys p) = ap (λ ks. form_vars f ++ ks) (all_declared_with ys)

    pub all_declared_with : (xs : Actions) → all_declared (actions_with n xs) ≡ all_declared xs
    all_declared_with no_actions = refl
    all_declared_with (with_action x xs) =
        ap (λ ks. ks ++ all_declared (actions_with n xs)) (declared_with x)
        ∙ ap (λ ks. declared x ++ ks) (all_declared_with xs)
