-- The variables that blocks declare: each once, and their objects have spots inside.
use Rattle.std.proofs.Common.{◌≡◌, ℕ, zero, suc, ◌<◌, ◌≤◌, Bool, true, false, List, [], ◌∷◌, ◌++◌, map, Option, Some}
use Rattle.std.proofs.Common.{refl, sym, ap, subst, ◌∙◌, arith, inl, inr, ◌⊎◌, ⊎_elim, if◌then◌else◌}
use Rattle.std.specs.Prelude.{slice_get, ◌==◌}
use Rattle.std.proofs.lemmas.Bool.{false≢true, eq-eqb}
use Rattle.std.proofs.lemmas.Option.{same_Some}
use Rattle.c_tree.specs.Views.{times_in}
use Rattle.c_tree.specs.declared.typed.Typed.{Typed}
use Rattle.c_tree.specs.declared.typed.VarDef.{VarDef}
use Rattle.typing_laws.specs.Scoping.{IsAmong}
use Rattle.cheri_c_sem.specs.Programs.{declared}
use Rattle.cheri_c_sem.specs.Tree.{Declared, Simple, Objects}
use Rattle.cheri_c_sem.specs.Types.{is_simple, objects_before}
use Rattle.lower_runs.specs.Operating.{Code}
use Rattle.lower_runs.specs.Statements.{IsEntered, with_spot, nothing, simple, whole}
use Rattle.lower_runs.specs.States.{Scene}
use Rattle.lower_runs.specs.Trees.{HasSpot, IsInner, AreInner, AreOthers}
use Rattle.value_trees.specs.Standing.{HaveSpots}
use Rattle.value_trees.proofs.Uses.{counted, times_cons, times_append}

-- ---- lists of variables

pub among_either : (xs js : List ℕ) (k : ℕ) → IsAmong (xs ++ js) k → IsAmong xs k ⊎ IsAmong js k
among_either [] js k h = inr h
among_either (x ∷ xs) js k h =
    ⊎_elim (λ e. inl (inl e)) (λ g. ⊎_elim (λ i. inl (inr i)) (λ i. inr i) (among_either xs js k g)) h

among_times : (xs : List ℕ) (k : ℕ) → IsAmong xs k → 1 ≤ times_in k xs
among_times [] k h = absurd h
among_times (x ∷ xs) k h =
    ⊎_elim (λ e. let z : counted (x == k) ≡ 1 = ap counted (eq-eqb x k e) in omega (arith, z, times_cons k x xs))
    (λ g. omega (arith, among_times xs k g, times_cons k x xs)) h

pub among_at : (xs : List ℕ) (k : ℕ) → IsAmong xs k → (j : ℕ) × (slice_get xs j ≡ Some k)
among_at [] k h = absurd h
among_at (x ∷ xs) k h = ⊎_elim (λ e. (0, ap Some e)) (λ g. let r = among_at xs k g in (suc r.0, r.1)) h

pub at_among : (xs : List ℕ) (j k : ℕ) → slice_get xs j ≡ Some k → IsAmong xs k
at_among [] j k e = absurd cc
at_among (x ∷ xs) zero k e = inl (same_Some x k e)
at_among (x ∷ xs) (suc j) k e = inr (at_among xs j k e)

-- None of these variables is declared in a list of blocks, and each variable there is declared once
pub record Apart (count : ℕ) (js ds : List ℕ) : Type 0 where
  pub none : (k : ℕ) → IsAmong js k → times_in k ds ≡ 0
  pub once : (k : ℕ) → k < count → times_in k ds ≤ 1

pub apart_first : (n : ℕ) (js xs ys : List ℕ) → Apart n js (xs ++ ys) → Apart n js xs
apart_first n js xs ys h = record {
  none = λ k i. omega (arith, h.none k i, times_append k xs ys);
  once = λ k lt. omega (arith, h.once k lt, times_append k xs ys);
}

pub apart_rest : (n : ℕ) (js xs ys : List ℕ) → Apart n js (xs ++ ys) → Apart n js ys
apart_rest n js xs ys h = record {
  none = λ k i. omega (arith, h.none k i, times_append k xs ys);
  once = λ k lt. omega (arith, h.once k lt, times_append k xs ys);
}

-- inside a block its own variables are declared no more
pub apart_inside : (n : ℕ) (js xs ys : List ℕ) → ((k : ℕ) → IsAmong xs k → k < n) → Apart n js (xs ++ ys) →
    Apart n (xs ++ js) ys
apart_inside n js xs ys below h = record {
  none = λ k i. ⊎_elim (λ g. omega (arith, h.once k (below k g), times_append k xs ys, among_times xs k g))
      (λ g. omega (arith, h.none k g, times_append k xs ys)) (among_either xs js k i);
  once = λ k lt. omega (arith, h.once k lt, times_append k xs ys);
}

-- a variable in scope is none that a block declares
pub not_among : (n : ℕ) (js xs ys : List ℕ) (k : ℕ) → Apart n js (xs ++ ys) → IsAmong js k → IsAmong xs k → ⊥
not_among n js xs ys k h i g = absurd (omega (arith, h.none k i, times_append k xs ys, among_times xs k g))

-- ---- objects by their numbers

objects_least : (vs : List VarDef) (x y : ℕ) → x ≤ y → objects_before vs x ≤ objects_before vs y
objects_least [] x y h = omega arith
objects_least (v ∷ vs) zero y h = omega arith
objects_least (v ∷ vs) (suc x) zero h = absurd (omega (arith, h))
objects_least (v ∷ vs) (suc x) (suc y) h = omega (arith, objects_least vs x y (omega (arith, h)))

abbrev room : Bool → ℕ
room b = if b then 0 else 1

objects_less : (vs : List VarDef) (x y : ℕ) → x < y → is_simple (slice_get vs x) ≡ false →
    objects_before vs x < objects_before vs y
objects_less [] x y h e = absurd (false≢true (sym e))
objects_less (v ∷ vs) x zero h e = absurd (omega (arith, h))
objects_less (v ∷ vs) zero (suc y) h e =
    let z : room v.simple ≡ 1 = ap room e in omega (arith, z)
objects_less (v ∷ vs) (suc x) (suc y) h e = omega (arith, objects_less vs x y (omega (arith, h)) e)

module _ (p : Typed) (vars : List VarDef) where
  abbrev dc : ℕ → Declared
  dc x = declared p vars x

  pub declares_simple : (x : ℕ) → is_simple (slice_get vars x) ≡ true → dc x ≡ Simple x
  declares_simple x e = ap (λ b. if b then Simple x else Objects (objects_before vars x)) e

  pub declares_object : (x : ℕ) → is_simple (slice_get vars x) ≡ false → dc x ≡ Objects (objects_before vars x)
  declares_object x e = ap (λ b. if b then Simple x else Objects (objects_before vars x)) e

  -- each variable is another
  declared_same : (x y : ℕ) → dc x ≡ dc y → x ≡ y
  declared_same x y e = by (is_simple (slice_get vars x)) (is_simple (slice_get vars y)) refl refl
    where
      objects : (e : objects_before vars x ≡ objects_before vars y) → is_simple (slice_get vars x) ≡ false →
          is_simple (slice_get vars y) ≡ false → x ≡ y
      objects e a b = grind (arith, e, objects_less vars x y, objects_less vars y x, a, b)

      by : (b c : Bool) → is_simple (slice_get vars x) ≡ b → is_simple (slice_get vars y) ≡ c → x ≡ y
      by true true a b = let g : Simple x ≡ Simple y = sym (declares_simple x a) ∙ e ∙ declares_simple y b in cc
      by true false a b =
          let g : Simple x ≡ Objects (objects_before vars y) = sym (declares_simple x a) ∙ e ∙ declares_object y b in
          absurd cc
      by false true a b =
          let g : Objects (objects_before vars x) ≡ Simple y = sym (declares_object x a) ∙ e ∙ declares_simple y b in
          absurd cc
      by false false a b =
          let g : Objects (objects_before vars x) ≡ Objects (objects_before vars y) =
          sym (declares_object x a) ∙ e ∙ declares_object y b in
          let i : objects_before vars x ≡ objects_before vars y = cc in objects i a b

  inner_one : (params x : ℕ) → params ≤ x → IsInner vars params (dc x)
  inner_one params x h = by (is_simple (slice_get vars x))
    where
      by : (b : Bool) → IsInner vars params (if b then Simple x else Objects (objects_before vars x))
      by true = h
      by false = objects_least vars params x h

  pub all_inner : (params : ℕ) (xs : List ℕ) → ((x : ℕ) → IsAmong xs x → params ≤ x) →
      AreInner vars params (map dc xs)
  all_inner params [] h = tt
  all_inner params (x ∷ xs) h = (inner_one params x (h x (inl refl)), all_inner params xs (λ y i. h y (inr i)))

  pub all_others : (held : Option Declared) (xs : List ℕ) → ((x : ℕ) → IsAmong xs x → held ≡ Some (dc x) → ⊥) →
      AreOthers held (map dc xs)
  all_others held [] h = tt
  all_others held (x ∷ xs) h = (h x (inl refl), all_others held xs (λ y i. h y (inr i)))

  -- what an expression in scope has is none of a block's own
  pub others_of : (n y : ℕ) (js xs ys : List ℕ) → Apart n js (xs ++ ys) → IsAmong js y →
      AreOthers (Some (dc y)) (map dc xs)
  others_of n y js xs ys h i =
      all_others (Some (dc y)) xs (λ x g e. not_among n js xs ys y h i
      (subst (IsAmong xs) (sym (declared_same y x (same_Some _ _ e))) g))

  -- ---- spots

  with_spot_keeps : (o n t : ℕ) (g : Scene) → HasSpot (g.spot o) → HasSpot ((with_spot n t g).spot o)
  with_spot_keeps o n t g h = by (o == n)
    where
      by : (b : Bool) → HasSpot (if b then Some t else g.spot o)
      by true = tt
      by false = h

  with_spot_has : (n t : ℕ) (g : Scene) → HasSpot ((with_spot n t g).spot n)
  with_spot_has n t g = subst (λ b. HasSpot (if b then Some t else g.spot n)) (sym (eq-eqb n n refl)) tt

  entered_keeps : (g h : Scene) (ds : List Declared) (c : Code) → IsEntered g ds h c → (n : ℕ) → HasSpot (g.spot n) →
      HasSpot (h.spot n)
  entered_keeps g h ds c nothing n s = s
  entered_keeps g h ds c (simple e r) n s = entered_keeps _ h _ _ r n s
  entered_keeps g h ds c (whole {n = m} {t = t} i f r) n s =
      entered_keeps _ h _ _ r n (with_spot_keeps n m t g s)

  record Rest (g h : Scene) (ds : List Declared) : Type 0 where
    inner : Scene
    code : Code
    is : IsEntered inner ds h code

  rest_of : (g h : Scene) (d : Declared) (ds : List Declared) (c : Code) → IsEntered g (d ∷ ds) h c → Rest g h ds
  rest_of g h d ds c (simple e r) = record { inner = g; code = _; is = r }
  rest_of g h d ds c (whole {n = m} {t = t} i f r) = record { inner = with_spot m t g; code = _; is = r }

  first_has : (g h : Scene) (n : ℕ) (ds : List Declared) (c : Code) → IsEntered g (Objects n ∷ ds) h c →
      HasSpot (h.spot n)
  first_has g h n ds c (whole {t = t} i f r) = entered_keeps _ h ds _ r n (with_spot_has n t g)

  entered_has : (xs : List ℕ) (g h : Scene) (c : Code) → IsEntered g (map dc xs) h c → (y : ℕ) → IsAmong xs y →
      is_simple (slice_get vars y) ≡ false → HasSpot (h.spot (objects_before vars y))
  entered_has [] g h c r y i e = absurd i
  entered_has (x ∷ xs) g h c r y i e = ⊎_elim
      (λ q. first_has g h (objects_before vars y) (map dc xs) c
      (subst (λ d. IsEntered g (d ∷ map dc xs) h c) (ap dc q ∙ declares_object y e) r))
      (λ j. let z = rest_of g h (dc x) (map dc xs) c r in entered_has xs z.inner h z.code z.is y j e) i

  pub entered_spots : (xs js : List ℕ) (g h : Scene) (c : Code) → IsEntered g (map dc xs) h c → HaveSpots vars g js →
      HaveSpots vars h (xs ++ js)
  entered_spots xs js g h c r s y i e = ⊎_elim (λ j. entered_has xs g h c r y j e)
      (λ j. entered_keeps g h (map dc xs) c r (objects_before vars y) (s y j e)) (among_either xs js y i)
