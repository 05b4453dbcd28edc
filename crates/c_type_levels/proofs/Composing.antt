-- The composite of two types of those of their parts.
use Rattle.std.proofs.Common.{◌≡◌, ℕ, List, [], ◌∷◌, ◌++◌, length, drop, map, refl, ap}
use Rattle.c_tree.specs.Types as types
use Rattle.c_tree.specs.Types.{Ty, composite, composites}
use Rattle.c_tree.specs.Views.{tys}
use Rattle.c_type_levels.specs.Levels.{pairs_of, pair_composite}

-- the composites of two lists of types, of the numbers of the composites of their pairs
composites-map : (go : ℕ → Ty) (ps qs ks : List ℕ) → map go ks ≡ map (pair_composite go) (pairs_of ps qs) →
    tys (map go (ks ++ drop (length ks) ps)) ≡ composites (tys (map go ps)) (tys (map go qs))
composites-map go [] qs [] e = refl
composites-map go [] qs (k ∷ ks) e = absurd cc
composites-map go (p ∷ ps) [] [] e = refl
composites-map go (p ∷ ps) [] (k ∷ ks) e = absurd cc
composites-map go (p ∷ ps) (q ∷ qs) [] e = absurd cc
composites-map go (p ∷ ps) (q ∷ qs) (k ∷ ks) e =
    let a : go k ≡ composite (go p) (go q) = cc in
    let b : map go ks ≡ map (pair_composite go) (pairs_of ps qs) = cc in
    let c = composites-map go ps qs ks b in
    cc

pub composite_params : (go : ℕ → Ty) (r s first : ℕ) (ps qs others all : List ℕ) →
    map go (first ∷ others) ≡ map (pair_composite go) ((r, s) ∷ pairs_of ps qs) →
    all ≡ others ++ drop (length others) ps →
    types.Function (go first) (tys (map go all))
    ≡ composite (types.Function (go r) (tys (map go ps))) (types.Function (go s) (tys (map go qs)))
composite_params go r s first ps qs others all e a =
    let b : go first ≡ composite (go r) (go s) = cc in
    let d : map go others ≡ map (pair_composite go) (pairs_of ps qs) = cc in
    let f = composites-map go ps qs others d in
    let g = ap (λ ks. tys (map go ks)) a in
    cc
