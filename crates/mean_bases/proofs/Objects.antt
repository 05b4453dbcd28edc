-- Objects that come and go.
use Rattle.std.proofs.Common.{◌≡◌, ℕ, zero, suc, ◌+◌, ◌/◌, ◌^◌, ◌<◌, List, [], ◌∷◌, ◌++◌, length, replicate, refl, sym}
use Rattle.std.proofs.Common.{ap, ◌∙◌, subst, arith, Option, Some, None, ◌⊎◌, inl, inr}
use Rattle.std.specs.Prelude.{slice_get, slice_set}
use Rattle.std.proofs.lemmas.Option.{none-some}
use Rattle.cap_concentrate.specs.Rounding.{owned}
use Rattle.obj_mem.specs.Values.{Value}
use Rattle.obj_mem.specs.Objects.{Life, Shape, Content, Memory, Mode, held, value_at, base_of_shape, base_in, blank}
use Rattle.obj_mem.specs.Objects.{add, with_life_by, with_life, owned_of_shape, zero_object}
use Rattle.obj_mem.specs.Objects as object
use Rattle.mean_bases.specs.Moments.{IsLow, IsLowMemory}
use Rattle.mean_bases.proofs.Accesses.{set_gives}

-- ---- an object more

get_added : {A : Type 0} (xs : List A) (x : A) (k : ℕ) (y : A) → slice_get (xs ++ x ∷ []) k ≡ Some y →
    (y ≡ x) ⊎ (slice_get xs k ≡ Some y)
get_added [] x zero y e = inl (let f : Some x ≡ Some y = e in cc)
get_added [] x (suc k) y e = inr e
get_added (z ∷ zs) x zero y e = inr e
get_added (z ∷ zs) x (suc k) y e = get_added zs x k y e

base_added : (xs : List Shape) (s : Shape) (k : ℕ) → ((j : ℕ) → base_in xs j < 2 ^ 63) → s.base < 2 ^ 63 →
    base_in (xs ++ s ∷ []) k < 2 ^ 63
base_added [] s zero h b = b
base_added [] s (suc k) h b = omega arith
base_added (x ∷ xs) s zero h b = h 0
base_added (x ∷ xs) s (suc k) h b = base_added xs s k (λ j. h (suc j)) b

nothing_in : (n g : ℕ) → held (slice_get (replicate n None) g) ≡ None
nothing_in zero g = refl
nothing_in (suc n) zero = refl
nothing_in (suc n) (suc g) = nothing_in n g

blank_low : (d : Mode) (n g : ℕ) (c : Content) (v : Value) → c ≡ blank d n → value_at c g ≡ Some v → IsLow v
blank_low d n g c v e f =
    absurd (none-some v (sym (nothing_in ((n + 15) / 16) g) ∙ subst (λ x. value_at x g ≡ Some v) e f))

module _ (d : Mode) (m : Memory) (low : IsLowMemory m) where
  pub add_low : (n base : ℕ) → base < 2 ^ 63 → owned n < 2 ^ 63 → IsLowMemory (add d m n base)
  add_low n base small few =
      let s : Shape = record { length = n; owned = owned n; life = object.Active; base = base } in
      record {
        bases = λ k. base_added m.shapes s k low.bases small;
        owned = λ k t e. elim (get_added m.shapes s k t e) as (λ _. t.owned < 2 ^ 63) [
          | inl q ↦ subst (λ (z : Shape). z.owned < 2 ^ 63) (sym q) few
          | inr q ↦ low.owned k t q
        ];
        values = λ k g c v e f. elim (get_added m.contents (blank d (owned n)) k c e) as (λ _. IsLow v) [
          | inl q ↦ blank_low d (owned n) g c v q f
          | inr q ↦ low.values k g c v q f
        ];
      }

-- ---- another life

base_set : (xs : List Shape) (k j : ℕ) (s t : Shape) → slice_get xs k ≡ Some s → t.base ≡ s.base →
    base_in (slice_set xs k t) j ≡ base_in xs j
base_set [] k j s t e b = refl
base_set (x ∷ xs) zero zero s t e b = b ∙ sym (ap base_of_shape e)
base_set (x ∷ xs) zero (suc j) s t e b = refl
base_set (x ∷ xs) (suc k) zero s t e b = refl
base_set (x ∷ xs) (suc k) (suc j) s t e b = base_set xs k j s t e b

module _ (m : Memory) (low : IsLowMemory m) where
  -- objects with another life, and what stands in them
  reshaped : (l : Life) (k : ℕ) (o : Option Shape) → slice_get m.shapes k ≡ o → (contents : List Content)
      → ((j g : ℕ) (c : Content) (v : Value) → slice_get contents j ≡ Some c → value_at c g ≡ Some v → IsLow v)
      → IsLowMemory (record m { shapes = with_life_by l m.shapes k o; contents = contents })
  reshaped l k None e contents values = record { bases = low.bases; owned = low.owned; values = values }
  reshaped l k (Some s) e contents values =
      let t : Shape = record s { life = l } in
      record {
        bases = λ j. subst (λ b. b < 2 ^ 63) (sym (base_set m.shapes k j s t e refl)) (low.bases j);
        owned = λ j u q. elim (set_gives m.shapes k j t u q) as (λ _. u.owned < 2 ^ 63) [
          | inl w ↦ subst (λ (z : Shape). z.owned < 2 ^ 63) (sym w) (low.owned k s e)
          | inr w ↦ low.owned j u w
        ];
        values = values;
      }

  pub life_low : (l : Life) (k : ℕ) → IsLowMemory (with_life l m k)
  life_low l k = reshaped l k (slice_get m.shapes k) refl m.contents low.values

  pub zero_low : (d : Mode) (k : ℕ) → IsLowMemory (zero_object d m k)
  zero_low d k =
      let n = owned_of_shape (slice_get m.shapes k) in
      reshaped object.Active k (slice_get m.shapes k) refl (slice_set m.contents k (blank d n))
      (λ j g c v e f. elim (set_gives m.contents k j (blank d n) c e) as (λ _. IsLow v) [
        | inl q ↦ blank_low d n g c v q f
        | inr q ↦ low.values j g c v q f
      ])

  pub whole_low : (k : ℕ) → owned_of_shape (slice_get m.shapes k) < 2 ^ 63
  whole_low k = by (slice_get m.shapes k) refl where
    by : (o : Option Shape) → slice_get m.shapes k ≡ o → owned_of_shape o < 2 ^ 63
    by None e = omega arith
    by (Some s) e = low.owned k s e
