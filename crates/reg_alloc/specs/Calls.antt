-- The calls of a function, in ascending order.
use Rattle.std.specs.Prelude.{ℕ, ◌<◌, ◌≤◌, List, Option, Some, None, Contains}

-- the least of some numbers that is above n
abbrev pub IsNextAbove : List ℕ → ℕ → Option ℕ → Type 0
IsNextAbove xs n None = (c : ℕ) → Contains xs c → c ≤ n
IsNextAbove xs n (Some m) = Contains xs m × (n < m) × ((c : ℕ) → Contains xs c → n < c → m ≤ c)
