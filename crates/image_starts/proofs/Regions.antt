-- The regions of an image's extents.
use Rattle.std.proofs.Common.{◌≡◌, ℕ, zero, suc, ◌+◌, ◌<◌, ◌≤◌, ◌⊎◌, Bool, true, false, cond, eqb, List, [], ◌∷◌}
use Rattle.std.proofs.Common.{length}
use Rattle.std.proofs.Common.{get_or, refl, sym, ap, subst, arith, inl, inr}
use Rattle.std.specs.Prelude.{◌&&◌, ◌||◌, nat_le, nat_lt}
use Rattle.std.specs.List.{insert, prefix_len}
use Rattle.std.proofs.lemmas.Bool.{le-leb, lt-ltb, or_cases}
use Rattle.std.proofs.lemmas.Bool.Decides.{nat_tests}
use Rattle.std.proofs.lemmas.List.Sums.{prefix_len-le-length}
use Rattle.tag_mem.specs.Memory.{fits_inside}
use Rattle.tag_mem.specs.Regions.{LieFrom, lies_in, fresh}
use Rattle.tag_mem.specs.declared.region.Region.{Region}
use Rattle.tag_mem.proofs.Fresh.{fits_inside-fresh}
use Rattle.image_load.specs.Judging.{Extent, end_of}
use Rattle.image_load.specs.State.{region_of, with_region}

-- ---- a region that was inserted

not_empty : (n : ℕ) → 0 < n → eqb n 0 ≡ false
not_empty n h = grind (arith, nat_tests)

abbrev before : Extent → List Region → ℕ
before e rs = prefix_len (λ r. nat_lt r.base e.0) rs

-- an extent that isn't empty has a region among those that it was added to
with_is : (e : Extent) (rs : List Region) → 0 < e.1 → with_region e rs ≡ insert rs (before e rs) (region_of e)
unfolding with_region
with_is e rs some = ap (λ b. cond b rs (insert rs (before e rs) (region_of e))) (not_empty e.1 some)

or_right : (a b : Bool) → b ≡ true → (a || b) ≡ true
or_right true b h = refl
or_right false b h = h

or_left : (a b : Bool) → a ≡ true → (a || b) ≡ true
or_left true b h = refl
or_left false b h = absurd cc

both : (a b : Bool) → a ≡ true → b ≡ true → (a && b) ≡ true
both true b h g = g
both false b h g = absurd cc

abbrev has : ℕ → Region → Bool
has x r = nat_le r.base x && nat_lt x (r.base + r.length)

inserted_here : (rs : List Region) (k : ℕ) (r : Region) (x : ℕ) → k ≤ length rs → has x r ≡ true
    → lies_in (insert rs k r) x ≡ true
inserted_here rs zero r x le h = or_left (has x r) (lies_in rs x) h
inserted_here [] (suc k) r x le h = absurd (omega arith)
inserted_here (q ∷ rs) (suc k) r x le h = or_right (has x q) _ (inserted_here rs k r x (omega arith) h)

inserted_other : (rs : List Region) (k : ℕ) (r : Region) (x : ℕ) → lies_in rs x ≡ true
    → lies_in (insert rs k r) x ≡ true
inserted_other rs zero r x h = or_right (has x r) (lies_in rs x) h
inserted_other [] (suc k) r x h = absurd cc
inserted_other (q ∷ rs) (suc k) r x h =
    elim (or_cases (has x q) (lies_in rs x) h) as (λ _. lies_in (insert (q ∷ rs) (suc k) r) x ≡ true) [
      | inl here ↦ or_left (has x q) (lies_in (insert rs k r) x) here
      | inr there ↦ or_right (has x q) (lies_in (insert rs k r) x) (inserted_other rs k r x there)
    ]

pub added_here : (e : Extent) (rs : List Region) (x : ℕ) → e.0 ≤ x → x < end_of e
    → lies_in (with_region e rs) x ≡ true
added_here e rs x from to =
    let some : 0 < e.1 = omega arith in
    subst (λ z. lies_in z x ≡ true) (sym (with_is e rs some))
    (inserted_here rs _ (region_of e) x (prefix_len-le-length (λ r. nat_lt r.base e.0) rs)
    (both (nat_le e.0 x) (nat_lt x (end_of e)) (le-leb e.0 x from) (lt-ltb x (end_of e) to)))

pub added_other : (e : Extent) (rs : List Region) (x : ℕ) → lies_in rs x ≡ true → lies_in (with_region e rs) x ≡ true
unfolding with_region
added_other e rs x h = by (eqb e.1 0)
  where
    by : (b : Bool) → lies_in (cond b rs (insert rs (before e rs) (region_of e))) x ≡ true
    by true = h
    by false = inserted_other rs _ (region_of e) x h

-- ---- among regions

abbrev pub Among : Region → List Region → Type 0
Among r [] = ⊥
Among r (q ∷ rs) = (q ≡ r) ⊎ Among r rs

among_here : (rs : List Region) (k : ℕ) (r : Region) → k ≤ length rs → Among r (insert rs k r)
among_here rs zero r le = inl refl
among_here [] (suc k) r le = absurd (omega arith)
among_here (q ∷ rs) (suc k) r le = inr (among_here rs k r (omega arith))

among_other : (rs : List Region) (k : ℕ) (q r : Region) → Among r rs → Among r (insert rs k q)
among_other rs zero q r h = inr h
among_other [] (suc k) q r h = absurd h
among_other (p ∷ rs) (suc k) q r (inl e) = inl e
among_other (p ∷ rs) (suc k) q r (inr h) = inr (among_other rs k q r h)

pub with_here : (e : Extent) (rs : List Region) → 0 < e.1 → Among (region_of e) (with_region e rs)
with_here e rs some =
    subst (Among (region_of e)) (sym (with_is e rs some))
    (among_here rs _ (region_of e) (prefix_len-le-length (λ r. nat_lt r.base e.0) rs))

pub with_other : (e : Extent) (rs : List Region) (r : Region) → Among r rs → Among r (with_region e rs)
unfolding with_region
with_other e rs r h = by (eqb e.1 0)
  where
    by : (b : Bool) → Among r (cond b rs (insert rs (before e rs) (region_of e)))
    by true = h
    by false = among_other rs _ (region_of e) r h

found : (r : Region) (rs : List Region) → Among r rs
    → (k : ℕ) × (k < length rs) × ((d : Region) → get_or rs k d ≡ r)
found r [] h = absurd h
found r (q ∷ rs) (inl e) = (0, omega arith, λ d. e)
found r (q ∷ rs) (inr h) = let f = found r rs h in (suc f.0, omega (arith, f.1), f.2)

-- a region's bytes fit where it stands
pub fits_among : (e : Extent) (rs : List Region) → Among (region_of e) rs → LieFrom 0 rs → 0 < e.1
    → fits_inside (fresh rs) e.0 e.1 ≡ true
fits_among e rs among lie some =
    let f = found (region_of e) rs among in
    let at : get_or rs f.0 (region_of e) ≡ region_of e = f.2 (region_of e) in
    subst (λ (r : Region). fits_inside (fresh rs) r.base e.1 ≡ true) at
    (fits_inside-fresh 0 rs f.0 e.1 (region_of e) lie f.1 (omega (arith, ap (λ (r : Region). r.length) at, some))
    (omega (arith, ap (λ (r : Region). r.length) at)))
