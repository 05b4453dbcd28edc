-- Numbers that count what passes a test.
use Rattle.std.proofs.Common.{◌≡◌, ℕ, zero, suc, ◌+◌, ◌≤◌, Bool, true, false, List, [], ◌∷◌, ◌++◌, length, get_or}
use Rattle.std.proofs.Common.{Some, refl, sym, ap, ◌∙◌, ◌⊎◌, inl, inr, ⊎_elim, arith, add-one, length-append}
use Rattle.std.specs.Prelude.{slice_get, if◌then◌else◌}
use Rattle.std.proofs.lemmas.Bool.{cases_lt}
use Rattle.std.proofs.lemmas.List.{get_or_past}
use Rattle.std.proofs.lemmas.Option.{slice_get-get_or}
use Rattle.c_tree.specs.Programs.{count_before}

pub count_zero : {A : Type 0} (test : A → Bool) (xs : List A) → count_before test xs 0 ≡ 0
count_zero test [] = refl
count_zero test (x ∷ xs) = refl

both_ways : (b c : Bool) (m n : ℕ) → m ≡ (if c then n + 1 else n) →
    (if b then m + 1 else m) ≡ (if c then (if b then n + 1 else n) + 1 else (if b then n + 1 else n))
both_ways true true m n e = ap (λ k. k + 1) e
both_ways true false m n e = ap (λ k. k + 1) e
both_ways false true m n e = e
both_ways false false m n e = e

count_more : {A : Type 0} (test : A → Bool) (xs : List A) (k : ℕ) (x : A) → slice_get xs k ≡ Some x →
    count_before test xs (suc k) ≡ (if test x then count_before test xs k + 1 else count_before test xs k)
count_more test [] k x e = absurd cc
count_more test (y ∷ xs) zero x e =
    let i : y ≡ x = cc in
    let z = count_zero test xs in
    ap (λ n. if test y then n + 1 else n) z ∙ ap (λ a. if test a then 1 else 0) i
count_more test (y ∷ xs) (suc k) x e =
    both_ways (test y) (test x) (count_before test xs (suc k)) (count_before test xs k) (count_more test xs k x e)

pub count_step : {A : Type 0} (test : A → Bool) (xs : List A) (k : ℕ) (x : A) (b : Bool) (n m : ℕ) →
    slice_get xs k ≡ Some x → b ≡ test x → count_before test xs k ≡ n → m ≡ (if b then n + 1 else n) →
    count_before test xs (k + 1) ≡ m
count_step test xs k x b n m e t c q =
    ap (count_before test xs) (add-one k) ∙ count_more test xs k x e ∙ ap (λ a. if test x then a + 1 else a) c
    ∙ ap (λ a. if a then n + 1 else n) (sym t) ∙ sym q

get-push : {A : Type 0} (xs : List A) (y : A) (k : ℕ) (x : A) → slice_get (xs ++ y ∷ []) k ≡ Some x →
    (slice_get xs k ≡ Some x) ⊎ ((k ≡ length xs) × (y ≡ x))
get-push [] y zero x e = inr (refl, cc)
get-push [] y (suc k) x e = absurd cc
get-push (z ∷ xs) y zero x e = inl e
get-push (z ∷ xs) y (suc k) x e =
    ⊎_elim (λ h. inl h) (λ h. inr (let i : k ≡ length xs = h.0 in omega arith, h.1)) (get-push xs y k x e)

pub filled_push : (f : ℕ → ℕ) (xs ys : List ℕ) (n k : ℕ) → ys ≡ xs ++ n ∷ [] → length xs ≡ k →
    ((j v : ℕ) → slice_get xs j ≡ Some v → f j ≡ v) → f k ≡ n → (j v : ℕ) → slice_get ys j ≡ Some v → f j ≡ v
filled_push f xs ys n k e l h q j v g =
    ⊎_elim (λ a. h j v a) (λ a. ap f (a.0 ∙ l) ∙ q ∙ a.1) (get-push xs n j v (ap (λ zs. slice_get zs j) (sym e) ∙ g))

-- behind all
pub count_behind : {A : Type 0} (test : A → Bool) (xs : List A) (k : ℕ) → length xs ≤ k →
    count_before test xs k ≡ count_before test xs (length xs)
count_behind test [] k le = refl
count_behind test (x ∷ xs) zero le = absurd (omega arith)
count_behind test (x ∷ xs) (suc k) le = ap (λ n. if test x then n + 1 else n) (count_behind test xs k (omega arith))

-- a list of numbers, and the one of all that stands behind it
pub filled_all : (f : ℕ → ℕ) (xs : List ℕ) (n : ℕ) → ((j v : ℕ) → slice_get xs j ≡ Some v → f j ≡ v) →
    ((j : ℕ) → length xs ≤ j → f j ≡ n) → (k : ℕ) → f k ≡ get_or xs k n
filled_all f xs n g h k =
    ⊎_elim (λ lt. g k (get_or xs k n) (slice_get-get_or xs k n lt)) (λ le. h k le ∙ sym (get_or_past xs k n le))
    (cases_lt k (length xs))

pub nothing_filled : (xs : List ℕ) (j v : ℕ) (f : ℕ → ℕ) → xs ≡ [] → slice_get xs j ≡ Some v → f j ≡ v
nothing_filled xs j v f e g = let z : slice_get [] j ≡ Some v = ap (λ ys. slice_get ys j) (sym e) ∙ g in absurd cc

pub low_step : (b : Bool) (n m k : ℕ) → m ≡ (if b then n + 1 else n) → n ≤ k → m ≤ k + 1
low_step true n m k e h = omega arith
low_step false n m k e h = omega arith

pub pushed_count : (xs ys : List ℕ) (n k : ℕ) → ys ≡ xs ++ n ∷ [] → length xs ≡ k → length ys ≡ k + 1
pushed_count xs ys n k e l = ap length e ∙ omega (arith, length-append xs (n ∷ []))
