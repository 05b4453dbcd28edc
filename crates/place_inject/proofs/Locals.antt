-- The locals of a call are added to the objects, one after another.
use Rattle.std.proofs.Common.{◌≡◌, ◌⊎◌, ℕ, zero, suc, ◌+◌, ◌-◌, ◌*◌, ◌/◌, ◌%◌, List, [], ◌∷◌, ◌++◌, length}
use Rattle.std.proofs.Common.{append_assoc, Some, refl, sym, ap, ◌∙◌, subst, arith, inl, inr}
use Rattle.std.specs.Prelude.{slice_get}
use Rattle.std.proofs.Math.Nat.{mul-mod_left, mul_assoc}
use Rattle.std.proofs.lemmas.List.{append-nil}
use Rattle.std.proofs.lemmas.Nat.{div-add-mod'}
use Rattle.std.proofs.lemmas.Option.{same_Some}
use Rattle.cap_concentrate.specs.Rounding.{owned}
use Rattle.tag_mem.specs.Areas.{Area}
use Rattle.cheri_c_sem.specs.Calls.{add_locals}
use Rattle.cheri_c_sem.specs.Modes.{Store, operations, placed_plan, with_local, local_offset}
use Rattle.obj_mem.specs.Legal.{Apart}
use Rattle.obj_mem.specs.Objects.{Inactive, Active, Shape, Memory, Placed, add, rest, with_life_by}
use Rattle.obj_mem.specs.Standing.{IsBased}
use Rattle.obj_mem.specs.Table.{addresses_of}
use Rattle.placement.specs.Memories.{IsClear}
use Rattle.placement.proofs.Added.{last_is, clear_add}
use Rattle.place_inject.specs.Objects.{ObjectsFit}
use Rattle.place_inject.specs.Frames.{Setting, functions_of}
use Rattle.place_inject.proofs.Growing.{locals_fit_law, set_last}

-- ---- numbers

pub multiple_sixteen : (q n : ℕ) → n % 16 ≡ 0 → q * n % 16 ≡ 0
multiple_sixteen q n z =
    let e : n ≡ n / 16 * 16 = omega arith in
    ap (λ v. q * v % 16) e ∙ ap (λ v. v % 16) (sym (mul_assoc q (n / 16) 16)) ∙ mul-mod_left (q * (n / 16)) 16

pub multiple_sum : (a b m : ℕ) → a % m ≡ 0 → b % m ≡ 0 → (a + b) % m ≡ 0
multiple_sum a b m h k =
    let e : a + b ≡ (a / m + b / m) * m =
    omega (arith, div-add-mod' a m, div-add-mod' b m) in
    ap (λ v. v % m) e ∙ mul-mod_left (a / m + b / m) m

pub multiple_of : (a align n : ℕ) → align % n ≡ 0 → (a * align) % n ≡ 0
multiple_of a align n h =
    let e : align ≡ align / n * n = omega (arith, div-add-mod' align n) in
    ap (λ v. a * v % n) e ∙ ap (λ v. v % n) (sym (mul_assoc a (align / n) n)) ∙ mul-mod_left (a * (align / n)) n

-- ---- which objects there are then

abbrev pub local_shape : ℕ → ℕ → Shape
local_shape n base = record { length = n; owned = owned n; life = Inactive; base = base }

local_shapes : (s : Setting) (m : Memory) (n base : ℕ)
    → (rest (add (Placed (addresses_of s.map)) m n base) (length m.shapes)).shapes ≡ m.shapes ++ local_shape n base ∷ []
local_shapes s m n base =
    let h : Shape = record { length = n; owned = owned n; life = Active; base = base } in
    ap (λ o. with_life_by Inactive (m.shapes ++ h ∷ []) (length m.shapes) o) (last_is m.shapes h)
    ∙ set_last m.shapes h (local_shape n base)

-- an item of two lists
pub either_part : {A : Type 0} (xs ys : List A) (i : ℕ) (x : A) → slice_get (xs ++ ys) i ≡ Some x
    → (slice_get xs i ≡ Some x) ⊎ ((k : ℕ) × (i ≡ length xs + k) × (slice_get ys k ≡ Some x))
either_part [] ys i x e = inr (i, omega arith, e)
either_part (y ∷ xs) ys zero x e = inl e
either_part (y ∷ xs) ys (suc i) x e = elim (either_part xs ys i x e) as (λ _. (slice_get xs i ≡ Some x)
    ⊎ ((k : ℕ) × (suc i ≡ suc (length xs) + k) × (slice_get ys k ≡ Some x))) [
      | inl front ↦ inl front
      | inr q ↦ let is = q.1 in inr (q.0, omega arith, q.2)
    ]

module _ (s : Setting) (fun at : ℕ) where
  abbrev pub base_of : ℕ → ℕ
  base_of n = at + local_offset (slice_get s.map.frames fun) n

  -- those of the lengths, from number n of the function's on
  abbrev pub locals_from : (n : ℕ) → List ℕ → List Shape
  locals_from n [] = []
  locals_from n (l ∷ ls) = local_shape l (base_of n) ∷ locals_from (suc n) ls

  abbrev pub added : Store → (n : ℕ) → List ℕ → Store
  added st n ls = add_locals (operations (placed_plan s.map)) st at fun n ls

  pub shapes_added : (ls : List ℕ) (n : ℕ) (st : Store)
      → (added st n ls).memory.shapes ≡ st.memory.shapes ++ locals_from n ls
  unfolding operations
  shapes_added [] n st = sym (append-nil st.memory.shapes)
  shapes_added (l ∷ ls) n st =
      shapes_added ls (suc n) (with_local (placed_plan s.map) st l (base_of n))
      ∙ ap (λ xs. xs ++ locals_from (suc n) ls) (local_shapes s st.memory l (base_of n))
      ∙ append_assoc st.memory.shapes (local_shape l (base_of n) ∷ []) (locals_from (suc n) ls)

  pub heap_added : (ls : List ℕ) (n : ℕ) (st : Store) → (added st n ls).heap ≡ st.heap
  unfolding operations
  heap_added [] n st = refl
  heap_added (l ∷ ls) n st = heap_added ls (suc n) (with_local (placed_plan s.map) st l (base_of n))

  pub local_is : (ls : List ℕ) (n k l : ℕ) → slice_get ls k ≡ Some l
      → slice_get (locals_from n ls) k ≡ Some (local_shape l (base_of (n + k)))
  local_is [] n k l e = absurd cc
  local_is (l' ∷ ls) n zero l e =
      let z : n ≡ n + 0 = omega arith in
      ap (λ x. Some (local_shape x (base_of n))) (same_Some l' l e) ∙ ap (λ x. Some (local_shape l (base_of x))) z
  local_is (l' ∷ ls) n (suc k) l e =
      let z : suc n + k ≡ n + suc k = omega arith in
      local_is ls (suc n) k l e ∙ ap (λ x. Some (local_shape l (base_of x))) z

  -- and one is of a length
  pub is_local : (ls : List ℕ) (n k : ℕ) (h : Shape) → slice_get (locals_from n ls) k ≡ Some h
      → (l : ℕ) × (slice_get ls k ≡ Some l) × (local_shape l (base_of (n + k)) ≡ h)
  is_local [] n k h e = absurd cc
  is_local (l ∷ ls) n zero h e =
      let z : n + 0 ≡ n = omega arith in
      (l, refl, ap (λ x. local_shape l (base_of x)) z ∙ same_Some (local_shape l (base_of n)) h e)
  is_local (l ∷ ls) n (suc k) h e =
      let r = is_local ls (suc n) k h e in
      let z : n + suc k ≡ suc n + k = omega arith in
      (r.0, r.1, ap (λ x. local_shape r.0 (base_of x)) z ∙ r.2)

  -- they fit where each is placed apart from all else
  pub objects_added : (memory : List Area) (ls : List ℕ) (n : ℕ) (st : Store)
      → ObjectsFit (functions_of s) (addresses_of s.map) st.memory memory
      → ((k l : ℕ) → slice_get ls k ≡ Some l → IsBased (base_of (n + k)) (owned l) l × (base_of (n + k) % 16 ≡ 0)
      × Apart (base_of (n + k)) (owned l) s.map.text.0 (s.map.text.0 + s.map.text.1 - s.map.text.0))
      → ((k l : ℕ) → slice_get ls k ≡ Some l → IsClear st.memory.shapes (base_of (n + k)) (owned l))
      → ((j k l l' : ℕ) → slice_get ls j ≡ Some l → slice_get ls k ≡ Some l' → (j ≡ k → ⊥)
      → Apart (base_of (n + j)) (owned l) (base_of (n + k)) (owned l'))
      → ObjectsFit (functions_of s) (addresses_of s.map) (added st n ls).memory memory
  unfolding operations
  objects_added memory [] n st f placed clear apart = f
  objects_added memory (l ∷ ls) n st f placed clear apart =
      let z : n + 0 ≡ n = omega arith in
      let b : ℕ = base_of n in
      let own = placed 0 l refl in
      let own_clear = clear 0 l refl in
      let st' : Store = with_local (placed_plan s.map) st l b in
      let f' = locals_fit_law (functions_of s) (addresses_of s.map) st.memory memory f l b
      (subst (λ x. IsBased (base_of x) (owned l) l) z own.0) (subst (λ x. base_of x % 16 ≡ 0) z own.1)
      (subst (λ x. IsClear st.memory.shapes (base_of x) (owned l)) z own_clear)
      (subst (λ x. Apart (base_of x) (owned l) s.map.text.0 (s.map.text.0 + s.map.text.1 - s.map.text.0)) z own.2) in
      objects_added memory ls (suc n) st' f'
      (λ k l' e. subst (λ x. IsBased (base_of x) (owned l') l' × (base_of x % 16 ≡ 0)
      × Apart (base_of x) (owned l') s.map.text.0 (s.map.text.0 + s.map.text.1 - s.map.text.0)) (shift k)
      (placed (suc k) l' e))
      (λ k l' e. subst (λ xs. IsClear xs (base_of (suc n + k)) (owned l')) (sym (local_shapes s st.memory l b))
      (clear_add st.memory.shapes (local_shape l b) (base_of (suc n + k)) (owned l')
      (subst (λ x. IsClear st.memory.shapes (base_of x) (owned l')) (shift k) (clear (suc k) l' e))
      (subst (λ x. Apart (base_of x) (owned l) (base_of (suc n + k)) (owned l')) z
      (subst (λ x. Apart (base_of (n + 0)) (owned l) (base_of x) (owned l')) (shift k)
      (apart 0 (suc k) l l' refl e (λ q. absurd (omega (arith, q))))))))
      (λ j k l' l'' e g d. subst (λ x. Apart (base_of x) (owned l') (base_of (suc n + k)) (owned l'')) (shift j)
      (subst (λ x. Apart (base_of (n + suc j)) (owned l') (base_of x) (owned l'')) (shift k)
      (apart (suc j) (suc k) l' l'' e g (λ q. d (let same : j ≡ k = omega (arith, q) in same)))))
    where
      shift : (k : ℕ) → n + suc k ≡ suc n + k
      shift k = omega arith
