use Rattle.std.proofs.Common.{◌≡◌}
use Rattle.obj_mem.specs.Needs.{is_const, is_const_within}
use Rattle.mean_types.proofs.types.is_constant.Given as goal

abbrev pub invariant-loop-left : goal.invariant-loop-left
invariant-loop-left l = is_const l.types l.t ≡ is_const_within l.left l.types l.at

abbrev pub decreases-loop-left : goal.decreases-loop-left
decreases-loop-left l = l.left
