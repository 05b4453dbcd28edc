-- Sums over numbers each of which stands once in a list.
use Rattle.std.proofs.Common.{◌≡◌, ℕ, zero, suc, ◌+◌, ◌*◌, ◌<◌, ◌≤◌, List, [], ◌∷◌, ◌++◌, length, cond, eq-eqb, Some}
use Rattle.std.proofs.Common.{refl, sym, ap, ◌∙◌, arith, inl, inr}
use Rattle.std.specs.Prelude.{slice_get, sum_by, flat_map, map, ◌==◌, if◌then◌else◌}
use Rattle.std.proofs.lemmas.List.Sums.{sum_by-cons, sum_by-append}
use Rattle.std.proofs.lemmas.Bool.{cases_lt, ne_eqb}
use Rattle.c_tree.specs.Views.{times_in}

-- the sum of n numbers from `a` on
abbrev pub upto : (ℕ → ℕ) → ℕ → ℕ → ℕ
upto f a zero = 0
upto f a (suc n) = f a + upto f (suc a) n

pub upto_same : (f g : ℕ → ℕ) (a n : ℕ) → ((k : ℕ) → a ≤ k → k < a + n → f k ≡ g k) → upto f a n ≡ upto g a n
upto_same f g a zero h = refl
upto_same f g a (suc n) h =
    let e = h a (omega arith) (omega arith) in
    let i = upto_same f g (suc a) n (λ k b c. h k (omega arith) (omega arith)) in
    omega (arith, e, i)

upto_zero : (f : ℕ → ℕ) (a n : ℕ) → ((k : ℕ) → f k ≡ 0) → upto f a n ≡ 0
upto_zero f a zero h = refl
upto_zero f a (suc n) h = omega (arith, h a, upto_zero f (suc a) n h)

upto_sum : (f g : ℕ → ℕ) (a n : ℕ) → upto (λ k. f k + g k) a n ≡ upto f a n + upto g a n
upto_sum f g a zero = refl
upto_sum f g a (suc n) = omega (arith, upto_sum f g (suc a) n)

abbrev once : ℕ → ℕ → ℕ
once x k = if x == k then 1 else 0

once_same : (x : ℕ) → once x x ≡ 1
once_same x = ap (λ b. cond b 1 0) (eq-eqb x x refl)

once_other : (x k : ℕ) → (x ≡ k → ⊥) → once x k ≡ 0
once_other x k h = ap (λ b. cond b 1 0) (ne_eqb x k h)

past_one : (f : ℕ → ℕ) (x a n : ℕ) → x < a → upto (λ k. once x k * f k) a n ≡ 0
past_one f x a zero l = refl
past_one f x a (suc n) l =
    let z : once x a * f a ≡ 0 = rw (once_other x a (omega arith)) (omega arith) in
    omega (arith, z, past_one f x (suc a) n (omega arith))

-- one of them
upto_one : (f : ℕ → ℕ) (x a n : ℕ) → a ≤ x → x < a + n → upto (λ k. once x k * f k) a n ≡ f x
upto_one f x a zero l h = absurd (omega arith)
upto_one f x a (suc n) l h =
    elim (cases_lt a x) as (λ _. once x a * f a + upto (λ k. once x k * f k) (suc a) n ≡ f x) [
      | inl lt ↦
          let z : once x a * f a ≡ 0 = rw (once_other x a (omega arith)) (omega arith) in
          omega (arith, z, upto_one f x (suc a) n (omega arith) (omega arith))
      | inr le ↦
          let e : a ≡ x = omega arith in
          let s : once x a * f a ≡ f x = rw (e, once_same x) (omega arith) in
          omega (arith, s, past_one f x (suc a) n (omega arith))
    ]

-- each number of a list has a property
abbrev pub Each : (ℕ → Type 0) → List ℕ → Type 0
Each P [] = Unit {0}
Each P (x ∷ xs) = P x × Each P xs

pub each_of : (P : ℕ → Type 0) (xs : List ℕ) → ((j a : ℕ) → slice_get xs j ≡ Some a → P a) → Each P xs
each_of P [] h = tt
each_of P (x ∷ xs) h = (h 0 x refl, each_of P xs (λ j a e. h (suc j) a e))

pub each_append : (P : ℕ → Type 0) (xs ys : List ℕ) → Each P xs → Each P ys → Each P (xs ++ ys)
each_append P [] ys p q = q
each_append P (x ∷ xs) ys p q = (p.0, each_append P xs ys p.1 q)

pub each_flat : {X : Type 0} (P : ℕ → Type 0) (f : X → List ℕ) (es : List X) →
    ((k : ℕ) (e : X) → slice_get es k ≡ Some e → Each P (f e)) → Each P (flat_map f es)
each_flat P f [] h = tt
each_flat P f (e ∷ es) h = each_append P (f e) (flat_map f es) (h 0 e refl) (each_flat P f es (λ k x g. h (suc k) x g))

pub each_map : {X : Type 0} (P : ℕ → Type 0) (f : X → ℕ) (es : List X) →
    ((k : ℕ) (e : X) → slice_get es k ≡ Some e → P (f e)) → Each P (map f es)
each_map P f [] h = tt
each_map P f (e ∷ es) h = (h 0 e refl, each_map P f es (λ k x g. h (suc k) x g))

-- a sum over a list counts each number as often as it stands there
counted : (f : ℕ → ℕ) (n : ℕ) (xs : List ℕ) → Each (λ x. x < n) xs → sum_by f xs ≡ upto (λ k. times_in k xs * f k) 0 n
counted f n [] h = sym (upto_zero (λ k. 0 * f k) 0 n (λ k. omega arith))
counted f n (x ∷ xs) h =
    let i = counted f n xs h.1 in
    let s = sum_by-cons f x xs in
    let below : x < 0 + n = omega (arith, h.0) in
    let o = upto_one f x 0 n (omega arith) below in
    let e : upto (λ k. times_in k (x ∷ xs) * f k) 0 n ≡ upto (λ k. once x k * f k + times_in k xs * f k) 0 n =
    upto_same _ _ 0 n (λ k b c. let t = sum_by-cons (λ j. once j k) x xs in rw t (omega arith)) in
    let u = upto_sum (λ k. once x k * f k) (λ k. times_in k xs * f k) 0 n in
    omega (arith, i, s, o, e, u)

-- where each stands there once, it is the sum over all of them
pub used_once : (f : ℕ → ℕ) (n : ℕ) (xs : List ℕ) → Each (λ x. x < n) xs → ((k : ℕ) → k < n → times_in k xs ≡ 1) →
    sum_by f xs ≡ upto f 0 n
used_once f n xs h once_each =
    counted f n xs h ∙ upto_same (λ k. times_in k xs * f k) f 0 n
    (λ k b c. rw (once_each k (omega arith)) (omega arith))

-- a sum over a list as one over its numbers
pub sum_upto : {X : Type 0} (g : X → ℕ) (f : ℕ → ℕ) (es : List X) (a : ℕ) →
    ((k : ℕ) (e : X) → slice_get es k ≡ Some e → g e ≡ f (a + k)) → sum_by g es ≡ upto f a (length es)
sum_upto g f [] a h = refl
sum_upto g f (e ∷ es) a h =
    let z : a + 0 ≡ a = omega arith in
    let i = sum_upto g f es (suc a) (λ k x q. let s : suc a + k ≡ a + suc k = omega arith in rw s (h (suc k) x q)) in
    let first : g e ≡ f a = h 0 e refl ∙ ap f z in
    omega (arith, sum_by-cons g e es, i, first)

pub sum_same : (f g : ℕ → ℕ) (xs : List ℕ) → Each (λ x. f x ≡ g x) xs → sum_by f xs ≡ sum_by g xs
sum_same f g [] h = refl
sum_same f g (x ∷ xs) h = omega (arith, sum_by-cons f x xs, sum_by-cons g x xs, sum_same f g xs h.1, h.0)

pub sum_flat : {X : Type 0} (f : ℕ → ℕ) (g : X → List ℕ) (es : List X) →
    sum_by f (flat_map g es) ≡ sum_by (λ e. sum_by f (g e)) es
sum_flat f g [] = refl
sum_flat f g (e ∷ es) =
    omega (arith, sum_by-append f (g e) (flat_map g es), sum_by-cons (λ x. sum_by f (g x)) e es, sum_flat f g es)

pub sum_both : {X : Type 0} (f g : X → ℕ) (es : List X) → sum_by (λ e. f e + g e) es ≡ sum_by f es + sum_by g es
sum_both f g [] = refl
sum_both f g (e ∷ es) = omega (
  arith,
  sum_by-cons (λ x. f x + g x) e es,
  sum_by-cons f e es,
  sum_by-cons g e es,
  sum_both f g es,
)

pub sum_map : {X : Type 0} (f : ℕ → ℕ) (g : X → ℕ) (es : List X) → sum_by f (map g es) ≡ sum_by (λ e. f (g e)) es
sum_map f g [] = refl
sum_map f g (e ∷ es) = omega (arith, sum_by-cons f (g e) (map g es), sum_by-cons (λ x. f (g x)) e es, sum_map f g es)
