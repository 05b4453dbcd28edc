-- Bytes that are put over others, and the stretch that holds them.
use Rattle.std.proofs.Common.{◌≡◌, ℕ, zero, suc, ◌+◌, ◌<◌, ◌≤◌, min, max, List, [], ◌∷◌, ◌++◌, length, take, drop}
use Rattle.std.proofs.Common.{get_or, map, refl, ap, ◌∙◌, arith}
use Rattle.std.specs.List.{zip}
use Rattle.std.proofs.Math.Seq.{drop-cons}
use Rattle.std.proofs.lemmas.List.{map-append}
use Rattle.cap_reloc.specs.declared.whole_pointers.Pointer.{Pointer}
use Rattle.cap_reloc.specs.Initial.{Content, byte_in, byte_of, lowest, highest}
use Rattle.cap_reloc.specs.Pointers.{extent_of}
use Rattle.cap_reloc.proofs.Rows.{zip_more}

pub byte_of_both : (under : ℕ) (cs ds : List Content) (a : ℕ) →
    byte_of under (cs ++ ds) a ≡ byte_of (byte_of under cs a) ds a
unfolding byte_of
byte_of_both under [] ds a = refl
byte_of_both under (c ∷ cs) ds a = byte_of_both (byte_in under c a) cs ds a

pub byte_of_none : (under a : ℕ) → byte_of under [] a ≡ under
unfolding byte_of
byte_of_none under a = refl

byte_of_one : (under : ℕ) (c : Content) (a : ℕ) → byte_of under (c ∷ []) a ≡ byte_in under c a
unfolding byte_of
byte_of_one under c a = refl

-- one object more
pub byte_of_more : {X : Type 0} (f : X × ℕ → Content) (under : ℕ) (xs : List X) (bs : List ℕ) (k : ℕ) (d : X) (a : ℕ) →
    k < length xs → length bs ≡ length xs
    → byte_of under (map f (take (k + 1) (zip xs bs))) a
    ≡ byte_in (byte_of under (map f (take k (zip xs bs))) a) (f (get_or xs k d, get_or bs k 0)) a
byte_of_more f under xs bs k d a h e =
    ap (λ v. byte_of under (map f v) a) (zip_more xs bs k d h e)
    ∙ ap (λ v. byte_of under v a) (map-append f (take k (zip xs bs)) ((get_or xs k d, get_or bs k 0) ∷ []))
    ∙ byte_of_both under (map f (take k (zip xs bs))) (f (get_or xs k d, get_or bs k 0) ∷ []) a
    ∙ byte_of_one (byte_of under (map f (take k (zip xs bs))) a) (f (get_or xs k d, get_or bs k 0)) a

-- ---- the stretch

pub lowest_more : (base : ℕ) (cs : List Pointer) (k : ℕ) (d : Pointer) → k < length cs →
    lowest base (map extent_of (drop k cs)) ≡ lowest (min base (get_or cs k d).base) (map extent_of (drop (k + 1) cs))
unfolding lowest
lowest_more base cs k d h =
    let e : suc k ≡ k + 1 = omega arith in
    ap (λ v. lowest base (map extent_of v)) (drop-cons cs k d h)
    ∙ ap (λ v. lowest (min base (get_or cs k d).base) (map extent_of (drop v cs))) e

pub highest_more : (end : ℕ) (cs : List Pointer) (k : ℕ) (d : Pointer) → k < length cs →
    highest end (map extent_of (drop k cs)) ≡ highest (max end ((get_or cs k d).base + (get_or cs k d).length))
    (map extent_of (drop (k + 1) cs))
unfolding highest
highest_more end cs k d h =
    let e : suc k ≡ k + 1 = omega arith in
    ap (λ v. highest end (map extent_of v)) (drop-cons cs k d h)
    ∙ ap (λ v. highest (max end ((get_or cs k d).base + (get_or cs k d).length)) (map extent_of (drop v cs))) e

pub lowest_none : (base : ℕ) (cs : List Pointer) (k : ℕ) → length cs ≤ k →
    lowest base (map extent_of (drop k cs)) ≡ base
unfolding lowest
lowest_none base [] zero h = refl
lowest_none base [] (suc k) h = refl
lowest_none base (c ∷ cs) zero h = absurd (omega arith)
lowest_none base (c ∷ cs) (suc k) h = let g : length cs ≤ k = omega arith in lowest_none base cs k g

pub highest_none : (end : ℕ) (cs : List Pointer) (k : ℕ) → length cs ≤ k → highest end (map extent_of (drop k cs)) ≡ end
unfolding highest
highest_none end [] zero h = refl
highest_none end [] (suc k) h = refl
highest_none end (c ∷ cs) zero h = absurd (omega arith)
highest_none end (c ∷ cs) (suc k) h = let g : length cs ≤ k = omega arith in highest_none end cs k g

pub lowest_least : (base : ℕ) (es : List (ℕ × ℕ)) → lowest base es ≤ base
unfolding lowest
lowest_least base [] = omega arith
lowest_least base (e ∷ es) = let h = lowest_least (min base e.0) es in omega arith

pub highest_most : (end : ℕ) (es : List (ℕ × ℕ)) → end ≤ highest end es
unfolding highest
highest_most end [] = omega arith
highest_most end (e ∷ es) = let h = highest_most (max end (e.0 + e.1)) es in omega arith

-- they reach over each object
pub lowest_at : (base : ℕ) (cs : List Pointer) (k : ℕ) (d : Pointer) → k < length cs →
    lowest base (map extent_of cs) ≤ (get_or cs k d).base
unfolding lowest
lowest_at base [] k d h = absurd (omega arith)
lowest_at base (c ∷ cs) zero d h = let l = lowest_least (min base c.base) (map extent_of cs) in omega arith
lowest_at base (c ∷ cs) (suc k) d h = lowest_at (min base c.base) cs k d (omega arith)

pub highest_at : (end : ℕ) (cs : List Pointer) (k : ℕ) (d : Pointer) → k < length cs →
    (get_or cs k d).base + (get_or cs k d).length ≤ highest end (map extent_of cs)
unfolding highest
highest_at end [] k d h = absurd (omega arith)
highest_at end (c ∷ cs) zero d h = let l = highest_most (max end (c.base + c.length)) (map extent_of cs) in omega arith
highest_at end (c ∷ cs) (suc k) d h = highest_at (max end (c.base + c.length)) cs k d (omega arith)
