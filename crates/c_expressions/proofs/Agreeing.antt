-- Types that are compatible, and the parts of a type.
use Rattle.std.proofs.Common.{◌≡◌, ℕ, ◌+◌, ◌<◌, ◌≤◌, Bool, List, [], ◌∷◌, ◌++◌, length, get_or, take, map, refl, sym}
use Rattle.std.proofs.Common.{ap, ◌∙◌, arith, add-one}
use Rattle.std.proofs.lemmas.List.{map-append, take_more}
use Rattle.c_tree.specs.Types.{Ty, bare_elements, compatible, compatible_bare}
use Rattle.c_expressions.specs.declared.nodes.Nodes.{Nodes}
use Rattle.c_expressions.specs.Agreement.{AreBelow}
use Rattle.c_expressions.specs.Nodes.{HasType, Tells, type_in, type_count}
use Rattle.c_expressions.proofs.Keeping.{keeps_then}

pub below_more : (n : ℕ) (ks : List ℕ) (k : ℕ) → AreBelow n ks → k < n → AreBelow n (ks ++ k ∷ [])
below_more n [] k h l = (l, tt)
below_more n (j ∷ ks) k h l = (h.0, below_more n ks k h.1 l)

pub parts_more : (f seen : ℕ → Ty) (xs ns : List ℕ) (i p k : ℕ) → map f xs ≡ map seen (take i ns) → i < length ns →
    k ≡ get_or ns i k → seen k ≡ f p → map f (xs ++ p ∷ []) ≡ map seen (take (i + 1) ns)
parts_more f seen xs ns i p k h lt e s =
    map-append f xs (p ∷ []) ∙ ap (λ ys. ys ++ f p ∷ []) h
    ∙ ap (λ y. map seen (take i ns) ++ y ∷ []) (sym s ∙ ap seen e)
    ∙ sym (map-append seen (take i ns) (get_or ns i k ∷ [])) ∙ ap (map seen) (sym (take_more ns i k lt))

-- ---- without qualifiers

pub compatible_bare_is : (n m l : Nodes) (s t a b : ℕ) (r : Bool) → t < type_count n →
    HasType n m a (bare_elements (type_in n s)) → HasType m l b (bare_elements (type_in m t)) →
    compatible (type_in l a) (type_in l b) ≡ r → Tells n l (compatible_bare (type_in n s) (type_in n t)) r
compatible_bare_is n m l s t a b r lt x y h =
    let u : type_in l a ≡ bare_elements (type_in n s) = y.keeps.types a x.is.there ∙ x.is.is in
    let v : type_in l b ≡ bare_elements (type_in n t) = y.is.is ∙ ap bare_elements (x.keeps.types t lt) in
    record { keeps = keeps_then n m l x.keeps y.keeps; is = rw (← u, ← v) h }
