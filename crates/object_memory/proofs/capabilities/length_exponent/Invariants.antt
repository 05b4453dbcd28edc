use Rattle.std.proofs.Common.{◌≡◌, ◌+◌, ◌-◌, ◌^◌, ◌≤◌}
use Rattle.std.specs.Prelude.{nat_lt}
use Rattle.cap_concentrate.specs.Rounding.{first_from}
use Rattle.object_memory.proofs.capabilities.length_exponent.Given as goal

abbrev pub invariant-loop-e : goal.invariant-loop-e
invariant-loop-e l =
    (first_from (λ e. nat_lt l.length (2 ^ (e + 13))) (52 - l.e) l.e
    ≡ first_from (λ e. nat_lt l.length (2 ^ (e + 13))) 52 0) × (l.e ≤ 52)

abbrev pub decreases-loop-e : goal.decreases-loop-e
decreases-loop-e l = 52 - l.e
