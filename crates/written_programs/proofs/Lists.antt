-- Facts of each item of a list, of lists that go on, and of counts.
use Rattle.std.proofs.Common.{◌≡◌, ℕ, zero, suc, ◌+◌, ◌<◌, ◌≤◌, List, [], ◌∷◌, ◌++◌, length, cond, Some, ap}
use Rattle.std.proofs.Common.{subst, ◌⊎◌, inl, inr, ⊎_elim, arith, eq-eqb}
use Rattle.std.specs.Prelude.{slice_get, nat_lt, ◌==◌, if◌then◌else◌}
use Rattle.std.proofs.lemmas.Option.{same_Some}
use Rattle.std.proofs.lemmas.Bool.{cases_lt, ne_eqb, lt-ltb, le-ltb}
use Rattle.std.proofs.lemmas.List.Sums.{sum_by-cons}
use Rattle.c_tree.specs.Views.{times_in}
use Rattle.c_copy.proofs.Items.{get-push}
use Rattle.written_programs.specs.Writable.{Every}

-- ---- each item

pub every_at : {A : Type 0} (P : A → Type 0) (xs : List A) → Every P xs → (k : ℕ) (x : A) → slice_get xs k ≡ Some x →
    P x
every_at P [] h k x e = absurd cc
every_at P (y ∷ ys) h zero x e = subst P (same_Some y x e) h.0
every_at P (y ∷ ys) h (suc k) x e = every_at P ys h.1 k x e

pub every_more : {A : Type 0} (P Q : A → Type 0) (xs : List A) → ((x : A) → P x → Q x) → Every P xs → Every Q xs
every_more P Q [] f h = tt
every_more P Q (x ∷ xs) f h = (f x h.0, every_more P Q xs f h.1)

pub every_split : {A : Type 0} (P : A → Type 0) (xs ys : List A) → Every P (xs ++ ys) → Every P xs × Every P ys
every_split P [] ys h = (tt, h)
every_split P (x ∷ xs) ys h = let r = every_split P xs ys h.1 in ((h.0, r.0), r.1)

pub every_both : {A : Type 0} (P : A → Type 0) (xs ys : List A) → Every P xs → Every P ys → Every P (xs ++ ys)
every_both P [] ys h k = k
every_both P (x ∷ xs) ys h k = (h.0, every_both P xs ys h.1 k)

-- what holds of each item holds of each of one more
pub push_each : {A : Type 0} (P : ℕ → A → Type 0) (xs : List A) (y : A) →
    ((k : ℕ) (x : A) → slice_get xs k ≡ Some x → P k x) → P (length xs) y → (k : ℕ) (x : A) →
    slice_get (xs ++ y ∷ []) k ≡ Some x → P k x
push_each P xs y h p k x e = ⊎_elim (λ a. h k x a) (λ b. rw (b.0, ← b.1) p) (get-push xs y k x e)

-- ---- two lists

pub get-split : {A : Type 0} (xs ys : List A) (k : ℕ) (x : A) → slice_get (xs ++ ys) k ≡ Some x →
    (slice_get xs k ≡ Some x) ⊎ ((j : ℕ) × (k ≡ length xs + j) × (slice_get ys j ≡ Some x))
get-split [] ys k x e = inr (k, omega arith, e)
get-split (z ∷ xs) ys zero x e = inl e
get-split (z ∷ xs) ys (suc k) x e =
    ⊎_elim (λ h. inl h) (λ h. inr (h.0, let i : k ≡ length xs + h.0 = h.1 in omega (arith, i), h.2))
    (get-split xs ys k x e)

pub get-behind : {A : Type 0} (xs ys : List A) (k j : ℕ) → k ≡ length xs + j → slice_get (xs ++ ys) k ≡ slice_get ys j
get-behind [] ys k j e = ap (slice_get ys) (omega (arith, e))
get-behind (x ∷ xs) ys zero j e = absurd (omega (arith, e))
get-behind (x ∷ xs) ys (suc k) j e = get-behind xs ys k j (omega (arith, e))

pub cons_same : {A : Type 0} (x y : A) (xs ys : List A) → x ≡ y → xs ≡ ys → x ∷ xs ≡ y ∷ ys
cons_same x y xs ys e f = cc

-- ---- counts

-- 1 below n
unfoldable pub under : ℕ → ℕ → ℕ
under n k = (if nat_lt k n then 1 else 0)

abbrev pub is_one : ℕ → ℕ → ℕ
is_one j k = if j == k then 1 else 0

pub under_all : (n k : ℕ) → k < n → under n k ≡ 1
unfolding under
under_all n k l = ap (λ b. cond b 1 0) (lt-ltb k n l)

under_ge : (n k : ℕ) → n ≤ k → under n k ≡ 0
unfolding under
under_ge n k l = ap (λ b. cond b 1 0) (le-ltb k n l)

pub under_zero : (k : ℕ) → under 0 k ≡ 0
under_zero k = under_ge 0 k (omega arith)

pub under_more : (n k : ℕ) → under (suc n) k ≡ under n k + is_one n k
under_more n k = ⊎_elim (λ l. below l) (λ l. ⊎_elim (λ m. above m) (λ m. same (omega (arith, l, m))) (cases_lt n k))
    (cases_lt k n)
  where
    below : k < n → under (suc n) k ≡ under n k + is_one n k
    below l = let z : is_one n k ≡ 0 = ap (λ b. cond b 1 0) (ne_eqb n k (λ e. omega (arith, l, e))) in
        omega (arith, under_all (suc n) k (omega (arith, l)), under_all n k l, z)

    above : n < k → under (suc n) k ≡ under n k + is_one n k
    above l = let z : is_one n k ≡ 0 = ap (λ b. cond b 1 0) (ne_eqb n k (λ e. omega (arith, l, e))) in
        omega (arith, under_ge (suc n) k (omega (arith, l)), under_ge n k (omega (arith, l)), z)

    same : n ≡ k → under (suc n) k ≡ under n k + is_one n k
    same e = let z : is_one n k ≡ 1 = ap (λ b. cond b 1 0) (eq-eqb n k e) in
        omega (arith, under_all (suc n) k (omega (arith, e)), under_ge n k (omega (arith, e)), z)

pub times_cons : (k j : ℕ) (js : List ℕ) → times_in k (j ∷ js) ≡ is_one j k + times_in k js
times_cons k j js = sum_by-cons (λ i. is_one i k) j js
