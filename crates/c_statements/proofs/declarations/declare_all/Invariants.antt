use Rattle.std.proofs.Common.{length}
use Rattle.c_tree.specs.Readings as meant
use Rattle.c_tree.specs.Syntax.{Syns}
use Rattle.c_expressions.specs.Nodes.{IsWhole}
use Rattle.c_elaborator.specs.Answers.{Keeps}
use Rattle.c_elaborator.specs.Parts.{AreParts}
use Rattle.c_declarators.specs.Parts.{IsSpecified}
use Rattle.c_statements.specs.Gather.{SoFar}
use Rattle.c_readings.specs.Within.{PartsWithin}
use Rattle.c_statements.proofs.declarations.declare_all.Given as goal

abbrev pub decreases-loop-part : goal.decreases-loop-part
decreases-loop-part l = length l.left

abbrev pub invariant-loop-part : goal.invariant-loop-part
invariant-loop-part l = record {
  whole : IsWhole l.work.nodes;
  keeps : Keeps l.fn.work l.work;
  parts : PartsWithin l.work l.fn.depth l.left;
  found : (y : meant.Specified) (xs : Syns) → IsSpecified l.fn.work l.fn.s y → AreParts l.fn.work l.fn.kids xs →
      SoFar (λ r. r.declared y) l.fn.work l.work xs l.left l.items;
}
