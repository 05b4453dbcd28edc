-- Objects that come and go.
use Rattle.std.proofs.Common.{◌≡◌, ℕ, zero, suc, ◌+◌, ◌/◌, ◌^◌, ◌<◌, List, [], ◌∷◌, ◌++◌}
use Rattle.std.proofs.Common.{length, replicate, refl, sym, ap, ◌∙◌, subst, arith, Option, Some, None, ◌⊎◌, inl, inr}
use Rattle.std.specs.Prelude.{slice_get, slice_set}
use Rattle.std.proofs.lemmas.Option.{none-some}
use Rattle.cap_concentrate.specs.Rounding.{owned}
use Rattle.obj_mem.specs.Values.{Value, Int, Live, Fun, Raw}
use Rattle.obj_mem.specs.Objects.{Life, Shape, Content, Memory, Mode, held, value_at, base_of_shape, base_in, blank}
use Rattle.obj_mem.specs.Objects.{add, with_life_by, with_life, owned_of_shape, zero_object}
use Rattle.obj_mem.specs.Objects as object
use Rattle.tac_run.specs.Bases.{IsBased, AreBased, Grows}
use Rattle.tac_run.proofs.Accesses.{set_gives}

-- ---- a pointer that was there

pub later : (s t : List Shape) (v : Value) → Grows s t → IsBased s v → IsBased t v
later s t (Int n) g h = tt
later s t (Live o low high at p) g h =
    let more = g.longer in
    (omega (arith, h.0), subst (λ b. b + low < 2 ^ 64) (sym (g.same o h.0)) h.1)
later s t (Fun f) g h = tt
later s t (Raw y z) g h = tt

pub grows_on : (s t u : List Shape) → Grows s t → Grows t u → Grows s u
grows_on s t u g h =
    let more = g.longer in
    let again = h.longer in
    record { longer = omega arith; same = λ k l. h.same k (omega arith) ∙ g.same k l }

-- ---- an object more

get_added : {A : Type 0} (xs : List A) (x : A) (k : ℕ) (y : A) → slice_get (xs ++ x ∷ []) k ≡ Some y →
    (y ≡ x) ⊎ (slice_get xs k ≡ Some y)
get_added [] x zero y e = inl (let f : Some x ≡ Some y = e in cc)
get_added [] x (suc k) y e = inr e
get_added (z ∷ zs) x zero y e = inr e
get_added (z ∷ zs) x (suc k) y e = get_added zs x k y e

base_added : (xs : List Shape) (s : Shape) (k : ℕ) → ((j : ℕ) → base_in xs j < 2 ^ 64) → s.base < 2 ^ 64 →
    base_in (xs ++ s ∷ []) k < 2 ^ 64
base_added [] s zero h b = b
base_added [] s (suc k) h b = omega arith
base_added (x ∷ xs) s zero h b = h 0
base_added (x ∷ xs) s (suc k) h b = base_added xs s k (λ j. h (suc j)) b

base_kept : (xs : List Shape) (s : Shape) (k : ℕ) → k < length xs → base_in (xs ++ s ∷ []) k ≡ base_in xs k
base_kept [] s k l = absurd (omega arith)
base_kept (x ∷ xs) s zero l = refl
base_kept (x ∷ xs) s (suc k) l = base_kept xs s k (omega arith)

pub base_last : (xs : List Shape) (s : Shape) → base_in (xs ++ s ∷ []) (length xs) ≡ s.base
base_last [] s = refl
base_last (x ∷ xs) s = base_last xs s

pub one_longer : {A : Type 0} (xs : List A) (x : A) → length (xs ++ x ∷ []) ≡ suc (length xs)
one_longer [] x = refl
one_longer (y ∷ ys) x = ap suc (one_longer ys x)

nothing_in : (n g : ℕ) → held (slice_get (replicate n None) g) ≡ None
nothing_in zero g = refl
nothing_in (suc n) zero = refl
nothing_in (suc n) (suc g) = nothing_in n g

blank_based : (d : Mode) (shapes : List Shape) (n g : ℕ) (c : Content) (v : Value) → c ≡ blank d n →
    value_at c g ≡ Some v → IsBased shapes v
blank_based d shapes n g c v e f =
    absurd (none-some v (sym (nothing_in ((n + 15) / 16) g) ∙ subst (λ x. value_at x g ≡ Some v) e f))

abbrev pub Follows : Memory → Memory → Type 0
Follows m n = AreBased n × Grows m.shapes n.shapes

module _ (d : Mode) (m : Memory) (based : AreBased m) where
  pub add_based : (n base : ℕ) → base < 2 ^ 64 → Follows m (add d m n base)
  add_based n base small =
      let s : Shape = record { length = n; owned = owned n; life = object.Active; base = base } in
      let grows : Grows m.shapes (m.shapes ++ s ∷ []) = record {
        longer = omega (arith, one_longer m.shapes s);
        same = base_kept m.shapes s;
      } in (
        record {
          bases = λ k. base_added m.shapes s k based.bases small;
          values = λ k g c v e f.
              elim (get_added m.contents (blank d (owned n)) k c e) as (λ _. IsBased (m.shapes ++ s ∷ []) v) [
                | inl q ↦ blank_based d (m.shapes ++ s ∷ []) (owned n) g c v q f
                | inr q ↦ later m.shapes (m.shapes ++ s ∷ []) v grows (based.values k g c v q f)
              ];
        },
        grows,
      )

-- ---- another life

base_set : (xs : List Shape) (k j : ℕ) (s t : Shape) → slice_get xs k ≡ Some s → t.base ≡ s.base →
    base_in (slice_set xs k t) j ≡ base_in xs j
base_set [] k j s t e b = refl
base_set (x ∷ xs) zero zero s t e b = b ∙ sym (ap base_of_shape e)
base_set (x ∷ xs) zero (suc j) s t e b = refl
base_set (x ∷ xs) (suc k) zero s t e b = refl
base_set (x ∷ xs) (suc k) (suc j) s t e b = base_set xs k j s t e b

as_long : {A : Type 0} (xs : List A) (k : ℕ) (x : A) → length (slice_set xs k x) ≡ length xs
as_long [] k x = refl
as_long (y ∷ ys) zero x = refl
as_long (y ∷ ys) (suc k) x = ap suc (as_long ys k x)

-- objects at the same places
record Same (s t : List Shape) : Type 0 where
  long : length t ≡ length s
  base : (j : ℕ) → base_in t j ≡ base_in s j

other_life : (l : Life) (xs : List Shape) (k : ℕ) (o : Option Shape) → slice_get xs k ≡ o →
    Same xs (with_life_by l xs k o)
other_life l xs k None e = record { long = refl; base = λ j. refl }
other_life l xs k (Some s) e =
    record { long = as_long xs k (record s { life = l }); base = λ j. base_set xs k j s (record s { life = l }) e refl }

module _ (m : Memory) (based : AreBased m) where
  reshaped : (shapes : List Shape) (contents : List Content) → Same m.shapes shapes
      → ((k g : ℕ) (c : Content) (v : Value) → slice_get contents k ≡ Some c → value_at c g ≡ Some v →
      IsBased m.shapes v)
      → Follows m (record m { shapes = shapes; contents = contents })
  reshaped shapes contents same values =
      let long = same.long in
      let grows : Grows m.shapes shapes = record { longer = omega arith; same = λ k l. same.base k } in (
        record {
          bases = λ k. subst (λ b. b < 2 ^ 64) (sym (same.base k)) (based.bases k);
          values = λ k g c v e f. later m.shapes shapes v grows (values k g c v e f);
        },
        grows,
      )

  pub life_based : (l : Life) (k : ℕ) → Follows m (with_life l m k)
  life_based l k = reshaped (with_life_by l m.shapes k (slice_get m.shapes k)) m.contents
      (other_life l m.shapes k (slice_get m.shapes k) refl) based.values

  pub zero_based : (d : Mode) (k : ℕ) → Follows m (zero_object d m k)
  zero_based d k =
      let n = owned_of_shape (slice_get m.shapes k) in
      reshaped (with_life_by object.Active m.shapes k (slice_get m.shapes k)) (slice_set m.contents k (blank d n))
      (other_life object.Active m.shapes k (slice_get m.shapes k) refl)
      (λ j g c v e f. elim (set_gives m.contents k j (blank d n) c e) as (λ _. IsBased m.shapes v) [
        | inl q ↦ blank_based d m.shapes n g c v q f
        | inr q ↦ based.values j g c v q f
      ])

pub life_long : (m : Memory) (l : Life) (k : ℕ) → length (with_life l m k).shapes ≡ length m.shapes
life_long m l k = (other_life l m.shapes k (slice_get m.shapes k) refl).long
