use Rattle.std.proofs.Common.{◌≡◌, ◌-◌, length, drop, Ok}
use Rattle.image_load.specs.Judging.{judged_relocs}
use Rattle.image_load.proofs.judging.judge_relocs.Given as goal

abbrev pub invariant-loop-r : goal.invariant-loop-r
invariant-loop-r l = judged_relocs l.fn.initial (drop l.k l.view.relocs) (Ok tt)
    ≡ judged_relocs l.fn.initial l.view.relocs (Ok tt)

abbrev pub decreases-loop-r : goal.decreases-loop-r
decreases-loop-r l = length l.view.relocs - l.k
