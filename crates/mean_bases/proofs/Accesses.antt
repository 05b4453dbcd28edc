-- Loads, stores and copies.
use Rattle.std.proofs.Common.{◌≡◌, ℕ, zero, suc, ◌/◌, ◌==◌, ◌&&◌, Bool, true, false, List, [], ◌∷◌, take, drop, refl}
use Rattle.std.proofs.Common.{subst, Option, Some, None, Result, Ok, Err, ◌⊎◌, inl, inr}
use Rattle.std.specs.Prelude.{IfOk, slice_get, slice_set, if◌then◌else◌}
use Rattle.std.proofs.lemmas.Option.{none-some}
use Rattle.obj_mem.specs.declared.ending.Fault.{Fault}
use Rattle.obj_mem.specs.Values.{Value, Int, Live, Fun, Raw, Addresses}
use Rattle.obj_mem.specs.Objects.{Life, Active, Inactive, Returned, Shape, Content, Memory, Placed, held, value_at}
use Rattle.obj_mem.specs.Objects.{bytes_at, opened_by}
use Rattle.obj_mem.specs.declared.ending.Reason.TheVariants as R
use Rattle.obj_mem.specs.Access.{Spot, Piece, Tagged, Plain, onward, reach, outside_unless_active, at_place, at_spot}
use Rattle.obj_mem.specs.Access.{load_access, store_access, piece_of, fetch, with_piece, put, known, loaded, load}
use Rattle.obj_mem.specs.Access.{read_as, number_of, has_unwritten, has_part, stored_piece, store, carried, as_load}
use Rattle.obj_mem.specs.Access.{as_store, then_put, copy_unit}
use Rattle.mean_bases.specs.Moments.{IsLow, IsLowMemory}

module _ {A B : Type 0} where
  pub onward_ok : (Q : A → Type 0) (P : B → Type 0) (r : Result A Fault) (f : A → Result B Fault) → IfOk r Q →
      ((x : A) → Q x → IfOk (f x) P) → IfOk (onward r f) P
  onward_ok Q P (Ok x) f h g = g x h
  onward_ok Q P (Err e) f h g = tt

-- whatever it is
any : {A : Type 0} → (r : Result A Fault) → IfOk r (λ x. Unit {0})
any (Ok x) = tt
any (Err e) = tt

-- ---- what a list gets

pub set_gives : {A : Type 0} (xs : List A) (k i : ℕ) (x y : A) → slice_get (slice_set xs k x) i ≡ Some y →
    (y ≡ x) ⊎ (slice_get xs i ≡ Some y)
set_gives [] k i x y e = inr e
set_gives (z ∷ zs) zero zero x y e = inl (let f : Some x ≡ Some y = e in cc)
set_gives (z ∷ zs) zero (suc i) x y e = inr e
set_gives (z ∷ zs) (suc k) zero x y e = inr e
set_gives (z ∷ zs) (suc k) (suc i) x y e = set_gives zs k i x y e

set_held : (xs : List (Option Value)) (k i : ℕ) (o : Option Value) (v : Value) →
    held (slice_get (slice_set xs k o) i) ≡ Some v → (o ≡ Some v) ⊎ (held (slice_get xs i) ≡ Some v)
set_held [] k i o v e = inr e
set_held (z ∷ zs) zero zero o v e = inl e
set_held (z ∷ zs) zero (suc i) o v e = inr e
set_held (z ∷ zs) (suc k) zero o v e = inr e
set_held (z ∷ zs) (suc k) (suc i) o v e = set_held zs k i o v e

-- ---- units

module _ (a : Addresses) (m : Memory) where
  -- a unit that holds no other pointer
  abbrev IsLowPiece : Piece → Type 0
  IsLowPiece (Tagged v) = IsLow v
  IsLowPiece (Plain cs) = Unit {0}

  at_place_ok : {A : Type 0} (P : A → Type 0) (s : Spot) (n : ℕ) (o : Option Shape) (c : Option Content)
      (f : Content → Result A Fault) → ((x : Content) → c ≡ Some x → IfOk (f x) P) →
      IfOk (at_place (Placed a) m s n o c f) P
  at_place_ok P s n (Some o) (Some c) f h = by o.life where
    by : (l : Life) → IfOk (outside_unless_active l (f c)) P
    by Active = h c refl
    by Inactive = tt
    by Returned = tt
  at_place_ok P s n (Some o) None f h = tt
  at_place_ok P s n None c f h = tt

  module _ (low : IsLowMemory m) where
    piece_low : (s : Spot) (n : ℕ) (c : Content) (w : Option Value) → slice_get m.contents s.object ≡ Some c →
        value_at c (s.at / 16) ≡ w → IsLowPiece (piece_of (Placed a) m c s n w)
    piece_low s n c None there e = tt
    piece_low s n c (Some v) there e = go (s.carries && n == 16) where
      go : (b : Bool) → IsLowPiece (if b then Tagged v else Plain (bytes_at (Placed a) m.shapes c s.at n))
      go true = low.values s.object (s.at / 16) c v there e
      go false = tt

    fetch_low : (p : Value) (n : ℕ) → IfOk (fetch (Placed a) m p n) IsLowPiece
    fetch_low p n =
        let at : Spot → Result Piece Fault =
        λ s. at_spot (Placed a) m s n (λ c. Ok (piece_of (Placed a) m c s n (value_at c (s.at / 16)))) in
        onward_ok (λ s. Unit {0}) IsLowPiece (reach (load_access n) p) at (any (reach (load_access n) p))
        (λ s t. at_place_ok IsLowPiece s n (slice_get m.shapes s.object) (slice_get m.contents s.object)
        (λ c. Ok (piece_of (Placed a) m c s n (value_at c (s.at / 16))))
        (λ c e. piece_low s n c (value_at c (s.at / 16)) e refl))

    loaded_low : (n : ℕ) (u : Piece) → IsLowPiece u → IfOk (loaded n u) IsLow
    loaded_low n (Tagged v) h = h
    loaded_low n (Plain cs) h = go (has_unwritten cs) (has_part cs) where
      read : (b : Bool) → IsLow (if b then Raw (number_of (take 8 cs)) (number_of (drop 8 cs))
          else Int (number_of cs))
      read true = tt
      read false = tt

      go : (b c : Bool) → IfOk (known b R.Unwritten (known c R.Address (Ok (read_as n cs)))) IsLow
      go true c = tt
      go false true = tt
      go false false = read (n == 16)

    pub load_low : (p : Value) (n : ℕ) → IfOk (load (Placed a) m p n) IsLow
    unfolding load
    load_low p n = onward_ok IsLowPiece IsLow (fetch (Placed a) m p n) (loaded n) (fetch_low p n)
        (loaded_low n)

    carried_low : (u : Piece) → IsLowPiece u → IfOk (carried u) IsLowPiece
    carried_low (Tagged v) h = h
    carried_low (Plain cs) h = go (has_part cs) where
      go : (b : Bool) → IfOk (known b R.Address (Ok (Plain cs))) IsLowPiece
      go true = tt
      go false = tt

    -- ---- what stands in an object behind a store

    opened_held : (c : Content) (i g : ℕ) (w : Option Value) (v : Value) →
        held (slice_get (opened_by (Placed a) m.shapes c i w).values g) ≡ Some v → value_at c g ≡ Some v
    opened_held c i g None v e = e
    opened_held c i g (Some x) v e =
        elim (set_held c.values i g None v e) as (λ _. value_at c g ≡ Some v)
        [ inl n ↦ absurd (none-some v n) | inr h ↦ h ]

    put_held : (c : Content) (i g : ℕ) (u : Piece) (v : Value) → IsLowPiece u →
        ((v : Value) → value_at c g ≡ Some v → IsLow v)
        → value_at (with_piece (Placed a) m.shapes c i u) g ≡ Some v → IsLow v
    put_held c i g (Tagged x) v h old e =
        elim (set_held c.values (i / 16) g (Some x) v e) as (λ _. IsLow v) [
          | inl q ↦ let same : x ≡ v = cc in subst IsLow same h
          | inr q ↦ old v q
        ]
    put_held c i g (Plain cs) v h old e = old v (opened_held c (i / 16) g (value_at c (i / 16)) v e)

    there_low : (k i : ℕ) (c : Content) (u : Piece) → slice_get m.contents k ≡ Some c → IsLowPiece u
        → IsLowMemory (record m { contents = slice_set m.contents k (with_piece (Placed a) m.shapes c i u) })
    there_low k i c u there h =
        let d = with_piece (Placed a) m.shapes c i u in
        record {
          bases = low.bases;
          owned = low.owned;
          values = λ j g x v e f.
              elim (set_gives m.contents k j d x e) as (λ _. IsLow v) [
                | inl q ↦ put_held c i g u v h (λ w z. low.values k g c w there z)
                    (subst (λ y. value_at y g ≡ Some v) q f)
                | inr q ↦ low.values j g x v q f
              ];
        }

    put_low : (p : Value) (n : ℕ) (u : Piece) → IsLowPiece u → IfOk (put (Placed a) m p n u) IsLowMemory
    put_low p n u h =
        let new : Spot → Content → Result Memory Fault =
        λ s c. Ok (record m {
          contents = slice_set m.contents s.object
              (with_piece (Placed a) m.shapes c s.at u);
        }) in
        onward_ok (λ s. Unit {0}) IsLowMemory (reach (store_access n u) p) (λ s. at_spot (Placed a) m s n (new s))
        (any (reach (store_access n u) p))
        (λ s t. at_place_ok IsLowMemory s n (slice_get m.shapes s.object) (slice_get m.contents s.object) (new s)
        (λ c e. there_low s.object s.at c u e h))

    spelled_low : (n : ℕ) (v : Value) → IsLow v → IsLowPiece (stored_piece n v)
    spelled_low n (Int x) h = tt
    spelled_low n (Raw y z) h = tt
    spelled_low n (Fun f) h = tt
    spelled_low n (Live o low high at p) h = h

    pub store_low : (p v : Value) (n : ℕ) → IsLow v → IfOk (store (Placed a) m p n v) IsLowMemory
    unfolding store
    store_low p v n h = put_low p n (stored_piece n v) (spelled_low n v h)

    as_store_low : (r : Result Memory Fault) → IfOk r IsLowMemory → IfOk (as_store r) IsLowMemory
    as_store_low (Ok n) h = h
    as_store_low (Err e) h = tt

    then_put_low : (to : Value) (n : ℕ) (r : Result Piece Fault) → IfOk r IsLowPiece →
        IfOk (then_put (Placed a) m to n (as_load r)) IsLowMemory
    then_put_low to n (Ok u) h = as_store_low (put (Placed a) m to n u) (put_low to n u h)
    then_put_low to n (Err e) h = tt

    pub copy_unit_low : (from to : Value) (n : ℕ) → IfOk (copy_unit (Placed a) m from to n) IsLowMemory
    unfolding copy_unit
    copy_unit_low from to n =
        then_put_low to n (onward (fetch (Placed a) m from n) carried)
        (onward_ok IsLowPiece IsLowPiece (fetch (Placed a) m from n) carried (fetch_low from n) carried_low)
