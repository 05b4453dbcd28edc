-- Sums over the first items of a list.
use Rattle.std.proofs.Common.{◌≡◌, ℕ, ◌+◌, ◌<◌, ◌≤◌, List, length, get_or, take, sym, ap, ◌∙◌, arith}
use Rattle.std.specs.List.{sum_by}
use Rattle.std.proofs.lemmas.List.Sums.{sum_by_more, sum_by-take-le}

pub sum_step : {X : Type 0} (f : X → ℕ) (xs : List X) (i : ℕ) (x : X) → i < length xs → x ≡ get_or xs i x
    → sum_by f (take (i + 1) xs) ≡ sum_by f (take i xs) + f x
sum_step f xs i x h e = sum_by_more f xs i x h ∙ ap (λ y. sum_by f (take i xs) + f y) (sym e)

pub sum_room : {X : Type 0} (f : X → ℕ) (xs : List X) (i : ℕ) (x : X) → i < length xs → x ≡ get_or xs i x
    → sum_by f (take i xs) + f x ≤ sum_by f xs
sum_room f xs i x h e =
    let a = sum_step f xs i x h e in
    let b = sum_by-take-le f xs (i + 1) in
    omega (arith, a, b)
