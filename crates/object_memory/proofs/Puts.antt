-- Items put into a list.
use Rattle.std.proofs.Common.{◌≡◌, ℕ, zero, suc, ◌+◌, ◌<◌, ◌≤◌, List, [], ◌∷◌, ◌++◌, map, length, replicate, drop}
use Rattle.std.proofs.Common.{drop-cons, get_or, set, refl, sym, ap, ◌∙◌, arith}
use Rattle.std.proofs.Math.ListN.{get_or-map}
use Rattle.std.proofs.lemmas.List.{length-set, map-set, set_past, length-map, drop_all, length-replicate, append-nil}
use Rattle.std.proofs.lemmas.Option.{slice_get-map}
use Rattle.obj_mem.specs.Objects.{Cell, put_at}

pub map_replicate : {A B : Type 0} (f : A → B) (n : ℕ) (x : A) → map f (replicate n x) ≡ replicate n (f x)
map_replicate f zero x = refl
map_replicate f (suc n) x = ap (λ xs. f x ∷ xs) (map_replicate f n x)

-- what a change of a list is, seen through a map
pub ruleset changes = (map-set, set_past, length-map, length-set, map_replicate, length-replicate)

-- the items before place n are filled: the next one is
fill_next : {A : Type 0} (d : List A) (n : ℕ) (x : A) → n < length d →
    set (replicate n x ++ drop n d) n x ≡ replicate (suc n) x ++ drop (suc n) d
fill_next [] n x h = absurd (omega arith)
fill_next (y ∷ d) zero x h = refl
fill_next (y ∷ d) (suc n) x h = ap (λ xs. x ∷ xs) (fill_next d n x (omega arith))

pub fill_step : {A : Type 0} (d : List A) (n : ℕ) (x : A) → n < length d →
    set (replicate n x ++ drop n d) n x ≡ replicate (n + 1) x ++ drop (n + 1) d
fill_step d n x h =
    let e : n + 1 ≡ suc n = omega arith in
    rw e (fill_next d n x h)

pub fill_all : {A : Type 0} (d : List A) (n : ℕ) (x : A) → length d ≤ n → replicate n x ++ drop n d ≡ replicate n x
fill_all d n x h = ap (λ xs. replicate n x ++ xs) (drop_all n d h) ∙ append-nil (replicate n x)

-- the items from k on are to be put: so are those from k + 1 on, once this one is
pub put_more : {X : Type 0} (f : X → Cell) (xs : List Cell) (i k : ℕ) (ys : List X) (d : X) → k < length ys →
    put_at (set xs (i + k) (f (get_or ys k d))) (i + (k + 1)) (drop (k + 1) (map f ys))
    ≡ put_at xs (i + k) (drop k (map f ys))
put_more f xs i k ys d h =
    let long : k < length (map f ys) = omega (arith, length-map ys f) in
    let e : drop k (map f ys) ≡ get_or (map f ys) k (f d) ∷ drop (suc k) (map f ys) =
    drop-cons (map f ys) k (f d) long in
    let same : get_or (map f ys) k (f d) ≡ f (get_or ys k d) = get_or-map f ys k d in
    let one : k + 1 ≡ suc k = omega arith in
    let next : i + suc k ≡ suc (i + k) = omega arith in
    let step : put_at xs (i + k) (drop k (map f ys))
    ≡ put_at (set xs (i + k) (get_or (map f ys) k (f d))) (suc (i + k)) (drop (suc k) (map f ys)) =
    ap (put_at xs (i + k)) e in
    rw (one, next, ← same) (sym step)

pub put_all : {X : Type 0} (f : X → Cell) (xs : List Cell) (i k : ℕ) (ys : List X) → length ys ≤ k →
    put_at xs (i + k) (drop k (map f ys)) ≡ xs
put_all f xs i k ys h = ap (put_at xs (i + k)) (drop_all k (map f ys) (omega (arith, length-map ys f)))

-- an item of a list, seen through a map
pub ruleset lookups = (slice_get-map)
