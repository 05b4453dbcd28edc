use Rattle.std.proofs.Common.{◌≡◌, length, map}
use Rattle.c_tree.specs.Layout.{bare}
use Rattle.cheri_c_sem.specs.Types.{scalar_of}
use Rattle.tac_ir.specs.Bodies.{all_have_in}
use Rattle.tac_ir.specs.WellFormed.{kind_or_int}
use Rattle.tac_ir.proofs.body.Body.args_fit.Given as goal

abbrev pub invariant-loop-arg : goal.invariant-loop-arg
invariant-loop-arg l =
    all_have_in l.self l.args (map (λ q. kind_or_int (scalar_of (bare l.self.program.now.types q))) l.params)
    ≡ all_have_in l.self l.left (map (λ q. kind_or_int (scalar_of (bare l.self.program.now.types q))) l.wanted)

abbrev pub decreases-loop-arg : goal.decreases-loop-arg
decreases-loop-arg l = length l.left
