-- Calls and intervals.
use Rattle.std.specs.Prelude.{ℕ, ◌≡◌, ◌<◌, ◌⊎◌, List, Contains}
use Rattle.reg_alloc.specs.declared.intervals.Interval.{Interval}

-- some call crosses an interval: it stands strictly between its ends
abbrev pub IsCrossed : List ℕ → Interval → Type 0
IsCrossed calls v = (c : ℕ) × Contains calls c × (v.first < c) × (c < v.last)

-- an interval begins at the function's entry or ends at a call, where c10 to c17 have arguments
abbrev pub IsPassed : List ℕ → Interval → Type 0
IsPassed calls v = (v.first ≡ 0) ⊎ Contains calls v.last
