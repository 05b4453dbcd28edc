use Rattle.std.proofs.Common.{◌≡◌, ◌^◌, ◌≤◌}
use Rattle.rv_select.proofs.operations.power_of.Given as goal

abbrev pub invariant-loop-k : goal.invariant-loop-k
invariant-loop-k l = record { power : l.power ≡ 2 ^ l.k; few : l.k ≤ 31 }
