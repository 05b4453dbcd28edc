use Rattle.std.proofs.Common.{◌≡◌, take}
use Rattle.std.specs.Prelude.{sum_by}
use Rattle.c_tree.specs.Weight.{counted, fun_weight}
use Rattle.c_tree.proofs.weighing.funs_weight.Given as goal

abbrev pub invariant-loop-f : goal.invariant-loop-f
invariant-loop-f l = l.total ≡ counted (sum_by fun_weight (take l.f-index l.funs))
