use Rattle.std.proofs.Common.{◌≡◌, ◌≤◌, ◌*◌, ◌^◌, ◌-◌, take}
use Rattle.std.specs.List.{sum_by}
use Rattle.tac_ir.specs.Costs.{cost}
use Rattle.tac_ir.proofs.costs.code_cost.Given as goal

abbrev pub invariant-loop-i : goal.invariant-loop-i
invariant-loop-i l = (l.total ≡ sum_by cost (take l.i-index l.code)) × (l.total ≤ l.i-index * (2 ^ 64 - 1))
