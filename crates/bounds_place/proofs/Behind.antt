-- Objects one behind the other are aligned, lie between the first place and the end, and have no byte in common.
use Rattle.std.proofs.Common.{ℕ, ◌+◌, ◌^◌, ◌≤◌, List, [], ◌∷◌, ◌++◌, map, arith, inl}
use Rattle.std.proofs.Math.Nat.{mul-mod_left}
use Rattle.cap_concentrate.proofs.Least.{rounded_up_ge}
use Rattle.obj_mem.specs.Legal.{ObjectNeed, owned_of, alignment_of, room_of, IsApartFrom, AllApart, AllInRange}
use Rattle.obj_mem.specs.Legal.{placed_at, AreAligned}
use Rattle.bounds_place.specs.Rows.{need, place_of, behind, bases_from, end_from}
use Rattle.bounds_place.specs.Placing.{AllWithin}
use Rattle.program_needs.proofs.Lengths.{rounded_below}

pub alignment_from : (n : ObjectNeed) → 16 ≤ alignment_of n
alignment_from n = omega arith

-- ---- where they end

end_least : (next : ℕ) (ns : List ObjectNeed) → next ≤ end_from next (map need ns)
unfolding end_from
end_least next [] = omega arith
end_least next (n ∷ ns) =
    let r = end_least (behind next (need n)) ns in
    let u = rounded_up_ge next (alignment_of n) (omega (arith, alignment_from n)) in
    omega arith

pub end_most : (next : ℕ) (ns : List ObjectNeed) → end_from next (map need ns) ≤ next + room_of ns
unfolding end_from
end_most next [] = omega arith
end_most next (n ∷ ns) =
    let r = end_most (behind next (need n)) ns in
    let u = rounded_below next (alignment_of n) (omega (arith, alignment_from n)) in
    omega arith

-- ---- they are aligned

pub row_aligned : (next : ℕ) (ns : List ObjectNeed) → AreAligned ns (bases_from next (map need ns))
unfolding bases_from
row_aligned next [] = tt
row_aligned next (n ∷ ns) = (mul-mod_left _ (alignment_of n), row_aligned (behind next (need n)) ns)

-- ---- where they lie

pub within_more : (from from' to : ℕ) (xs : List (ℕ × ℕ)) → from' ≤ from → AllWithin from to xs → AllWithin from' to xs
within_more from from' to [] h w = tt
within_more from from' to (x ∷ xs) h w = (omega (arith, w.0), w.1, within_more from from' to xs h w.2)

pub within_most : (from to to' : ℕ) (xs : List (ℕ × ℕ)) → to ≤ to' → AllWithin from to xs → AllWithin from to' xs
within_most from to to' [] h w = tt
within_most from to to' (x ∷ xs) h w = (w.0, omega (arith, w.1), within_most from to to' xs h w.2)

pub row_within : (next : ℕ) (ns : List ObjectNeed) →
    AllWithin next (end_from next (map need ns)) (placed_at ns (bases_from next (map need ns)))
unfolding bases_from end_from
row_within next [] = tt
row_within next (n ∷ ns) =
    let u = rounded_up_ge next (alignment_of n) (omega (arith, alignment_from n)) in
    let e = end_least (behind next (need n)) ns in (
      omega arith,
      omega arith,
      within_more (behind next (need n)) next _ _ (omega arith) (row_within (behind next (need n)) ns),
    )

-- ---- they are apart

apart_below : (a : ℕ × ℕ) (from to : ℕ) (xs : List (ℕ × ℕ)) → a.0 + a.1 ≤ from → AllWithin from to xs → IsApartFrom a xs
apart_below a from to [] h w = tt
apart_below a from to (x ∷ xs) h w = (inl (omega (arith, w.0)), apart_below a from to xs h w.2)

row_apart : (next : ℕ) (ns : List ObjectNeed) → AllApart (placed_at ns (bases_from next (map need ns)))
unfolding bases_from
row_apart next [] = tt
row_apart next (n ∷ ns) = (
  apart_below (place_of next (need n), owned_of n) (behind next (need n))
      (end_from (behind next (need n)) (map need ns)) _ (omega arith) (row_within (behind next (need n)) ns),
  row_apart (behind next (need n)) ns,
)

-- ---- two rows

apart_append : (a : ℕ × ℕ) (xs ys : List (ℕ × ℕ)) → IsApartFrom a xs → IsApartFrom a ys → IsApartFrom a (xs ++ ys)
apart_append a [] ys h k = k
apart_append a (x ∷ xs) ys h k = (h.0, apart_append a xs ys h.1 k)

pub within_append : (from to : ℕ) (xs ys : List (ℕ × ℕ)) → AllWithin from to xs → AllWithin from to ys →
    AllWithin from to (xs ++ ys)
within_append from to [] ys h k = k
within_append from to (x ∷ xs) ys h k = (h.0, h.1, within_append from to xs ys h.2 k)

all_append : (from mid to : ℕ) (xs ys : List (ℕ × ℕ)) → AllApart xs → AllApart ys → AllWithin from mid xs →
    AllWithin mid to ys → AllApart (xs ++ ys)
all_append from mid to [] ys h k w v = k
all_append from mid to (x ∷ xs) ys h k w v =
    (apart_append x xs ys h.0 (apart_below x mid to ys w.1 v), all_append from mid to xs ys h.1 k w.2 v)

-- the places of globals and literals
unfoldable pub objects_at : ℕ → List ObjectNeed → List ObjectNeed → List (ℕ × ℕ)
objects_at start globals literals =
    placed_at globals (bases_from start (map need globals))
    ++ placed_at literals (bases_from (end_from start (map need globals)) (map need literals))

unfoldable pub objects_end : ℕ → List ObjectNeed → List ObjectNeed → ℕ
objects_end start globals literals = end_from (end_from start (map need globals)) (map need literals)

pub objects_apart : (start : ℕ) (globals literals : List ObjectNeed) → AllApart (objects_at start globals literals)
unfolding objects_at
objects_apart start globals literals =
    let mid = end_from start (map need globals) in
    all_append start mid (end_from mid (map need literals)) _ _ (row_apart start globals) (row_apart mid literals)
    (row_within start globals) (row_within mid literals)

pub objects_within : (start : ℕ) (globals literals : List ObjectNeed) →
    AllWithin start (objects_end start globals literals) (objects_at start globals literals)
unfolding objects_at objects_end
objects_within start globals literals =
    let mid = end_from start (map need globals) in
    within_append start _ _ _
    (within_most start mid _ _ (end_least mid literals) (row_within start globals))
    (within_more mid start _ _ (end_least start globals) (row_within mid literals))

pub objects_most : (start : ℕ) (globals literals : List ObjectNeed) →
    (start ≤ objects_end start globals literals) ×
    (objects_end start globals literals ≤ start + (room_of globals + room_of literals))
unfolding objects_end
objects_most start globals literals =
    let mid = end_from start (map need globals) in (
      omega (arith, end_least start globals, end_least mid literals),
      omega (arith, end_most start globals, end_most mid literals),
    )

-- ---- an extent outside

pub apart_from_all : (a : ℕ × ℕ) (from to : ℕ) (xs : List (ℕ × ℕ)) → a.0 + a.1 ≤ from → AllWithin from to xs →
    IsApartFrom a xs
apart_from_all = apart_below

pub all_in_range : (from to : ℕ) (xs : List (ℕ × ℕ)) → 65536 ≤ from → to ≤ 2 ^ 40 → AllWithin from to xs → AllInRange xs
all_in_range from to [] h k w = tt
all_in_range from to (x ∷ xs) h k w = (omega (arith, w.0), omega (arith, w.1), all_in_range from to xs h k w.2)
