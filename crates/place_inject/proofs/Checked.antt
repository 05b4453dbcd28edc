-- The machine's check of the capability that a value is answers as the meaning's check of the value.
use Rattle.std.proofs.Common.{◌≡◌, ℕ, zero, suc, ◌+◌, ◌%◌, ◌^◌, ◌<◌, ◌≤◌, ◌==◌, ◌⊎◌, Bool, true, false, not, ◌&&◌, ◌||◌}
use Rattle.std.proofs.Common.{List, [], ◌∷◌, cond, eqb, ltb, refl, sym, ap, ◌∙◌, arith, Some, None, inl, inr}
use Rattle.std.specs.Prelude.{find, slice_get, Err}
use Rattle.std.proofs.lemmas.Bool.{cases_lt, cases_Bool, lt-ltb, le-ltb, eqb-true, ltb-false, and_parts, or_parts}
use Rattle.std.proofs.lemmas.Bool.{or_left, or_right, not-false}
use Rattle.std.proofs.Math.Nat.{mod-eq_of_lt}
use Rattle.cap_concentrate.specs.Encoding.{encoded_internal, encoded_t, encoded_b, with_bounds}
use Rattle.cap_concentrate.specs.Decoding.{base_of, top_of}
use Rattle.cap_ops.specs.declared.capability.Cap.{Cap}
use Rattle.cap_ops.specs.declared.capability.TheConstants.{UNSEALED, EXECUTE, LOAD, STORE, STORE_CAPABILITY}
use Rattle.cap_ops.specs.declared.access.Access.{Access}
use Rattle.cap_ops.specs.declared.access.Access.TheVariants as A
use Rattle.cap_ops.specs.declared.access.Cause.{Cause}
use Rattle.cap_ops.specs.declared.access.Cause.TheVariants as C
use Rattle.cap_ops.specs.Access.{size, IsAccess, loads, stores, stores_tagged, jumps, fails, in_order, answer, checked}
use Rattle.cap_ops.specs.Bounded.{bounded}
use Rattle.cap_ops.specs.Capability.{base, top, lacks}
use Rattle.obj_mem.specs.Access.{misses}
use Rattle.obj_mem.specs.Pointers.{keeps}

-- two tests that answer alike find the same
find_alike : {X : Type 0} (f g : X → Bool) (xs : List X) → ((x : X) → f x ≡ g x) → find f xs ≡ find g xs
find_alike f g [] same = refl
find_alike f g (x ∷ xs) same = rw (same x, find_alike f g xs same) refl

pub not_found : {X : Type 0} (f : X → Bool) (xs : List X) (k : ℕ) (x : X) → slice_get xs k ≡ Some x → find f xs ≡ None
    → f x ≡ false
not_found f [] k x e n = absurd cc
not_found f (y ∷ ys) zero x e n =
    let same : y ≡ x = cc in
    elim (cases_Bool (f y)) as (λ _. f x ≡ false) [
      | inl t ↦ absurd (let q : Some y ≡ None = sym (ap (λ b. cond b (Some y) (find f ys)) t) ∙ n in cc)
      | inr t ↦ ap f (sym same) ∙ t
    ]
not_found f (y ∷ ys) (suc k) x e n = elim (cases_Bool (f y)) as (λ _. f x ≡ false) [
  | inl t ↦ absurd (let q : Some y ≡ None = sym (ap (λ b. cond b (Some y) (find f ys)) t) ∙ n in cc)
  | inr t ↦ not_found f ys k x e (sym (ap (λ b. cond b (Some y) (find f ys)) t) ∙ n)
]

ltb_shift : (b x y : ℕ) → ltb (b + x) (b + y) ≡ ltb x y
ltb_shift b x y = elim (cases_lt x y) as (λ _. ltb (b + x) (b + y) ≡ ltb x y) [
  | inl l ↦ lt-ltb (b + x) (b + y) (omega arith) ∙ sym (lt-ltb x y l)
  | inr g ↦ le-ltb (b + x) (b + y) (omega arith) ∙ sym (le-ltb x y g)
]

-- the sizes of accesses
abbrev pub IsSize : ℕ → Type 0
IsSize n = (n ≡ 1) ⊎ ((n ≡ 2) ⊎ ((n ≡ 4) ⊎ ((n ≡ 8) ⊎ (n ≡ 16))))

small_size : (n : ℕ) → (n ≡ 1) ⊎ ((n ≡ 2) ⊎ ((n ≡ 4) ⊎ (n ≡ 8))) → IsSize n
small_size n (inl e) = inl e
small_size n (inr (inl e)) = inr (inl e)
small_size n (inr (inr (inl e))) = inr (inr (inl e))
small_size n (inr (inr (inr e))) = inr (inr (inr (inl e)))

pub size_is : (x : Access) → IsAccess x → IsSize (size x)
size_is (A.Load n) h = small_size n h
size_is (A.Store n) h = small_size n h
size_is A.LoadCap h = inr (inr (inr (inr refl)))
size_is (A.StoreCap t) h = inr (inr (inr (inr refl)))
size_is A.Jump h = inr (inr (inl refl))

-- an aligned access lies in one granule
pub in_granule : (at n : ℕ) → IsSize n → at % n ≡ 0 → (at % 16 + n ≤ 16) × (0 < n)
in_granule at n (inl e) h = (omega arith, omega arith)
in_granule at n (inr (inl e)) h = let z : at % 2 ≡ 0 = rw e at h in (omega arith, omega arith)
in_granule at n (inr (inr (inl e))) h = let z : at % 4 ≡ 0 = rw e at h in (omega arith, omega arith)
in_granule at n (inr (inr (inr (inl e)))) h = let z : at % 8 ≡ 0 = rw e at h in (omega arith, omega arith)
in_granule at n (inr (inr (inr (inr e)))) h = let z : at % 16 ≡ 0 = rw e at h in (omega arith, omega arith)

-- whether an address is a multiple hangs on its place in a granule alone
skew : (x y n : ℕ) → x % 16 ≡ y % 16 → IsSize n → x % n ≡ y % n
skew x y n h (inl e) = rw e (omega arith)
skew x y n h (inr (inl e)) = rw e (omega arith)
skew x y n h (inr (inr (inl e))) = rw e (omega arith)
skew x y n h (inr (inr (inr (inl e)))) = rw e (omega arith)
skew x y n h (inr (inr (inr (inr e)))) = rw e (omega arith)

-- ---- a pointer into an object at b

-- what is used of it
pub record Points (b low high at permissions : ℕ) : Type 0 where
  pub aligned : b % 16 ≡ 0
  pub from : 65536 ≤ b
  pub ordered : low ≤ high
  pub to : b + high ≤ 2 ^ 40
  pub kept : keeps (b + low) (b + high) ((b + at) % 2 ^ 64) ≡ true
  pub word : at < 2 ^ 64
  pub twelve_bits : permissions < 4096

module _ (b low high at permissions : ℕ) (p : Points b low high at permissions) where
  abbrev pub pointer : Cap
  pointer = bounded (b + low) (b + high) permissions UNSEALED ((b + at) % 2 ^ 64)

  both_kept : (base_of (encoded_internal (b + low) (b + high)) (encoded_t (b + low) (b + high))
      (encoded_b (b + low) (b + high)) ((b + at) % 2 ^ 64) ≡ b + low)
      × (top_of (encoded_internal (b + low) (b + high)) (encoded_t (b + low) (b + high))
      (encoded_b (b + low) (b + high)) ((b + at) % 2 ^ 64) ≡ b + high)
  unfolding keeps
  both_kept = let q = and_parts _ _ p.kept in (eqb-true _ _ q.0, eqb-true _ _ q.1)

  pub pointer_base : base pointer ≡ b + low
  unfolding with_bounds
  pointer_base = both_kept.0

  pub pointer_top : top pointer ≡ b + high
  unfolding with_bounds
  pointer_top = both_kept.1

  leaves_same : (n : ℕ) → (ltb ((b + at) % 2 ^ 64) (b + low) || ltb (b + high) ((b + at) % 2 ^ 64 + n)) ≡
      (ltb at low || ltb high (at + n))
  leaves_same n =
      let to = p.to in
      let word = p.word in
      let from = p.from in
      elim (cases_lt (b + at) (2 ^ 64)) as (λ _. (ltb ((b + at) % 2 ^ 64) (b + low) || ltb (b + high)
      ((b + at) % 2 ^ 64 + n)) ≡ (ltb at low || ltb high (at + n))) [
        | inl l ↦
            let e : (b + at) % 2 ^ 64 ≡ b + at = omega arith in
            let sum : b + at + n ≡ b + (at + n) = omega arith in
            rw (e, sum, ltb_shift b at low, ltb_shift b high (at + n)) refl
        | inr g ↦
            or_left _ _ (lt-ltb ((b + at) % 2 ^ 64) (b + low) (omega arith))
            ∙ sym (or_right (ltb at low) _ (lt-ltb high (at + n) (omega arith)))
      ]

  skew_same : (n : ℕ) → IsSize n → (b + at) % 2 ^ 64 % n ≡ at % n
  skew_same n s = let aligned = p.aligned in let word = p.word in skew ((b + at) % 2 ^ 64) at n (omega arith) s

  pub perms_same : (pointer.fields.perms) ≡ permissions
  unfolding with_bounds
  perms_same = mod-eq_of_lt p.twelve_bits

  address_same : pointer.fields.address ≡ (b + at) % 2 ^ 64
  unfolding with_bounds
  address_same = refl

  same_cause : (x : Access) → IsAccess x → (y : Cause) → fails pointer
      ((b + at) % 2 ^ 64) x y ≡ misses low high at permissions x y
  unfolding with_bounds
  same_cause x h C.Tag = refl
  same_cause x h C.Sealed = refl
  same_cause x h C.Load = ap (λ v. loads x && lacks v LOAD) perms_same
  same_cause x h C.Store = ap (λ v. stores x && lacks v STORE) perms_same
  same_cause x h C.StoreCap = ap (λ v. stores_tagged x && lacks v STORE_CAPABILITY) perms_same
  same_cause x h C.Execute = ap (λ v. jumps x && lacks v EXECUTE) perms_same
  same_cause x h C.Bounds =
      ap (λ v. ltb ((b + at) % 2 ^ 64) v || ltb (top pointer) ((b + at) % 2 ^ 64 + size x)) pointer_base
      ∙ ap (λ v. ltb ((b + at) % 2 ^ 64) (b + low) || ltb v ((b + at) % 2 ^ 64 + size x)) pointer_top
      ∙ leaves_same (size x)
  same_cause x h C.Align = ap (λ v. not (eqb v 0)) (skew_same (size x) (size_is x h))

  pub pointer_checked : (x : Access) → IsAccess x → checked pointer ((b + at) % 2 ^ 64) x ≡ answer ((b + at) % 2 ^ 64)
      (find (misses low high at permissions x) in_order)
  unfolding checked
  pointer_checked x h = ap (answer ((b + at) % 2 ^ 64)) (find_alike (fails pointer ((b + at) % 2 ^ 64) x)
      (misses low high at permissions x) in_order (same_cause x h))

-- ---- an access that passes lies inside the bounds

pub record Inside (low high at n : ℕ) : Type 0 where
  pub from : low ≤ at
  pub to : at + n ≤ high
  pub whole : at % n ≡ 0

pub passed : (low high at permissions : ℕ) (x : Access) → find (misses low high at permissions x) in_order ≡ None
    → Inside low high at (size x)
passed low high at permissions x e =
    let bounds = or_parts _ _ (not_found (misses low high at permissions x) in_order 6 C.Bounds refl e) in
    let align = not_found (misses low high at permissions x) in_order 7 C.Align refl e in
    record {
      from = ltb-false at low bounds.0;
      to = ltb-false high (at + size x) bounds.1;
      whole =
          eqb-true (at % size x) 0 (not-false _ align);
    }

-- ---- values that are no pointers

pub untagged_checked : (c : Cap) (at : ℕ) (x : Access) → c.tag ≡ false → checked c at x ≡ Err C.Tag
unfolding checked
untagged_checked c at x t = rw t refl

pub sealed_checked : (c : Cap) (at : ℕ) (x : Access) → c.tag ≡ true → (c.fields.otype == UNSEALED) ≡ false
    → checked c at x ≡ Err C.Sealed
unfolding checked
sealed_checked c at x t s = rw (t, s) refl
