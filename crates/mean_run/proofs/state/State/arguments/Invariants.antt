use Rattle.std.proofs.Common.{◌≡◌, ◌≤◌, length, drop}
use Rattle.mean_run.specs.Begun.{values_first}
use Rattle.mean_run.proofs.state.State.arguments.Given as goal

abbrev pub invariant-arguments : goal.invariant-arguments
invariant-arguments l =
    (l.left ≤ length l.args)
    × (l.self ≡ record l.fn.self { work = values_first l.f (drop l.left l.args) l.fn.self.work })

abbrev pub decreases-arguments : goal.decreases-arguments
decreases-arguments l = l.left
