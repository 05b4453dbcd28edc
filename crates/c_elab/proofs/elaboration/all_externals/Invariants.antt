use Rattle.std.proofs.Common.{length}
use Rattle.c_tree.specs.Syntax.{Syns}
use Rattle.c_expressions.specs.Nodes.{IsWhole}
use Rattle.c_elaborator.specs.Answers.{Keeps}
use Rattle.c_elaborator.specs.Parts.{AreParts}
use Rattle.c_elab.proofs.Externals.{FileSoFar}
use Rattle.c_readings.specs.Within.{PartsWithin}
use Rattle.c_elab.proofs.elaboration.all_externals.Given as goal

abbrev pub decreases-loop-part : goal.decreases-loop-part
decreases-loop-part l = length l.left

abbrev pub invariant-loop-part : goal.invariant-loop-part
invariant-loop-part l = record {
  whole : IsWhole l.work.nodes;
  keeps : Keeps l.fn.work l.work;
  parts : PartsWithin l.work l.fn.depth l.left;
  found : (xs : Syns) → AreParts l.fn.work l.fn.kids xs → FileSoFar l.fn.work l.work xs l.left;
}
