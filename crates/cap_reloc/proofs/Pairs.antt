-- Pairs of things and their bases.
use Rattle.std.proofs.Common.{◌≡◌, ℕ, zero, suc, ◌+◌, ◌^◌, ◌<◌, ◌≤◌, List, [], ◌∷◌, length, get_or, map, Some, refl, ap}
use Rattle.std.proofs.Common.{subst, ◌∙◌, arith}
use Rattle.std.specs.Prelude.{slice_get}
use Rattle.std.specs.List.{All, zip, flat_map}
use Rattle.std.proofs.lemmas.List.{length-map}
use Rattle.std.proofs.lemmas.Slice.Zip.{length-zip}
use Rattle.obj_mem.specs.Agreement.{Paired}
use Rattle.obj_mem.specs.Legal.{ObjectNeed, owned_of, placed_at}
use Rattle.obj_mem.specs.Standing.{HasBounds, HaveBounds}
use Rattle.obj_mem.proofs.Pairs.{join_both}
use Rattle.cap_reloc.specs.declared.whole_pointers.Pointer.{Pointer}
use Rattle.cap_reloc.specs.Pointers.{whole, extent_of}

pub pairs_length : {X Y : Type 0} (f : X × ℕ → Y) (xs : List X) (bs : List ℕ) → length bs ≡ length xs →
    length (map f (zip xs bs)) ≡ length xs
pairs_length f xs bs e = let l = length-zip xs bs in let m = length-map (zip xs bs) f in omega arith

pub pair_at : {X Y : Type 0} (f : X × ℕ → Y) (xs : List X) (bs : List ℕ) (k : ℕ) (x : X) (d : Y) →
    length bs ≡ length xs → slice_get xs k ≡ Some x → get_or (map f (zip xs bs)) k d ≡ f (x, get_or bs k 0)
pair_at f [] bs k x d e h = absurd cc
pair_at f (y ∷ xs) [] k x d e h = absurd (omega arith)
pair_at f (y ∷ xs) (b ∷ bs) zero x d e h = let s : y ≡ x = cc in ap (λ v. f (v, b)) s
pair_at f (y ∷ xs) (b ∷ bs) (suc k) x d e h = let l : length bs ≡ length xs = omega arith in pair_at f xs bs k x d l h

pub pairs_joined : {X A B : Type 0} (R : A → B → Type 0) (f : X × ℕ → List A) (g : X × ℕ → List B) (xs : List X)
    (bs : List ℕ)
    → ((k : ℕ) (x : X) → slice_get xs k ≡ Some x → k < length bs →
    Paired R (f (x, get_or bs k 0)) (g (x, get_or bs k 0))) →
    Paired R (flat_map f (zip xs bs)) (flat_map g (zip xs bs))
pairs_joined R f g [] bs h = tt
pairs_joined R f g (x ∷ xs) [] h = tt
pairs_joined R f g (x ∷ xs) (b ∷ bs) h =
    join_both R (f (x, b)) (g (x, b)) (flat_map f (zip xs bs)) (flat_map g (zip xs bs)) (h 0 x refl (omega arith))
    (pairs_joined R f g xs bs (λ k y e l. h (suc k) y e (omega arith)))

-- ---- objects with exact bounds at their bases

pub exact_length : (ns : List ObjectNeed) (bs : List ℕ) → HaveBounds ns bs → length bs ≡ length ns
exact_length [] [] h = refl
exact_length [] (b ∷ bs) h = absurd h
exact_length (n ∷ ns) [] h = absurd h
exact_length (n ∷ ns) (b ∷ bs) h = ap suc (exact_length ns bs h.1)

module _ {X : Type 0} (need : X → ObjectNeed) where
  pub exact_pairs : (xs : List X) (bs : List ℕ) → HaveBounds (map need xs) bs → length bs ≡ length xs
  exact_pairs xs bs h = exact_length (map need xs) bs h ∙ length-map xs need

  pub exact_at : (xs : List X) (bs : List ℕ) (k : ℕ) (x : X) → HaveBounds (map need xs) bs → slice_get xs k ≡ Some x →
      HasBounds (need x) (get_or bs k 0)
  exact_at [] bs k x h e = absurd cc
  exact_at (y ∷ xs) [] k x h e = absurd h
  exact_at (y ∷ xs) (b ∷ bs) zero x h e = let s : y ≡ x = cc in subst (λ v. HasBounds (need v) b) s h.0
  exact_at (y ∷ xs) (b ∷ bs) (suc k) x h e = exact_at xs bs k x h.1 e

  pub below_all : (xs : List X) (bs : List ℕ) → HaveBounds (map need xs) bs →
      All (λ (c : Pointer). c.base + c.length ≤ 2 ^ 40) (map (λ (x : X × ℕ). whole (need x.0) x.1) (zip xs bs))
  below_all [] bs h k d l = absurd (omega arith)
  below_all (x ∷ xs) [] h k d l = absurd h
  below_all (x ∷ xs) (b ∷ bs) h zero d l = h.0.based.to
  below_all (x ∷ xs) (b ∷ bs) h (suc k) d l = below_all xs bs h.1 k d (omega arith)

  pub extents_are : (xs : List X) (bs : List ℕ) →
      map extent_of (map (λ (x : X × ℕ). whole (need x.0) x.1) (zip xs bs)) ≡ placed_at (map need xs) bs
  extents_are [] bs = refl
  extents_are (x ∷ xs) [] = refl
  extents_are (x ∷ xs) (b ∷ bs) = ap (λ v. (b, owned_of (need x)) ∷ v) (extents_are xs bs)
