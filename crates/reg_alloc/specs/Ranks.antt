-- The registers of the allocator, by rank.
use Rattle.std.specs.Prelude.{ℕ, ◌≡◌, ◌+◌, ◌-◌, if◌then◌else◌, nat_lt, List, Contains}
use Rattle.reg_alloc.specs.declared.intervals.Interval.{Interval}
use Rattle.reg_alloc.specs.Crossing.{IsCrossed}

-- c17 down to c10, c5 to c7, then c8, c9 and c18 to c27
unfoldable pub register_of : ℕ → ℕ
register_of k = if nat_lt k 8 then 17 - k else (if nat_lt k 13 then k - 3 else k + 5)

-- the rank of a register
unfoldable pub rank_of : ℕ → ℕ
rank_of r = if nat_lt r 10 then r + 3 else (if nat_lt r 18 then 17 - r else r - 5)

-- the rank of the register that parameter i arrives in, where no call touches it
pub record IsOwnRank (calls : List ℕ) (v : Interval) (i k : ℕ) : Type 0 where
  pub rank : k + i ≡ 7
  pub parameter : v.first ≡ 0
  pub no_argument : Contains calls v.last → ⊥
  pub uncrossed : IsCrossed calls v → ⊥
