-- The live intervals of a function's temps.
use Rattle.std.specs.Prelude.{◌≡◌, ℕ, ◌&&◌, nat_lt, Bool, List, Some, length, slice_get}
use Rattle.reg_alloc.specs.declared.intervals.Interval.{Interval}
use Rattle.tac_ir.specs.Intervals.{IsLive}
use Rattle.tac_ir.specs.Temps.{names}
use Rattle.tac_ir.specs.WellFormed.{all_of, labels_differ}
use Rattle.tac_ir.specs.declared.code.TacFun.{TacFun}

-- one for each temp, in their order
pub record AreLive (f : TacFun) (live : List Interval) : Type 0 where
  pub len : length live ≡ f.temps
  pub exact : (t : ℕ) (i : Interval) → slice_get live t ≡ Some i → IsLive f t i.first i.last

-- each temp that its code names is one of its temps, and labels stand once
abbrev pub is_numbered : TacFun → Bool
is_numbered f = all_of (λ i. all_of (λ t. nat_lt t f.temps) (names i)) f.code && labels_differ f.code
