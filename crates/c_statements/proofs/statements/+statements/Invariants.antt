use Rattle.std.proofs.Common.{length, ◌+◌, ◌*◌}
use Rattle.c_tree.specs.Syntax.{Syns}
use Rattle.c_expressions.specs.Nodes.{IsWhole, type_in}
use Rattle.c_elaborator.specs.Answers.{Keeps}
use Rattle.c_elaborator.specs.Parts.{AreParts}
use Rattle.c_statements.specs.Gather.{SoFar}
use Rattle.c_statements.specs.Switching.{CasesSoFar}
use Rattle.c_elaborator.specs.Items.{context_in}
use Rattle.c_readings.specs.Within.{PartsWithin}
use Rattle.c_statements.proofs.statements.+statements.Given as goal

abbrev pub decreases-item : goal.decreases-item
decreases-item l = 16 * l.depth

abbrev pub decreases-statement : goal.decreases-statement
decreases-statement l = 16 * l.depth + 15

abbrev pub decreases-scoped : goal.decreases-scoped
decreases-scoped l = 16 * l.depth + 14

abbrev pub decreases-inside : goal.decreases-inside
decreases-inside l = 16 * l.depth + 13

abbrev pub decreases-block : goal.decreases-block
decreases-block l = 16 * l.depth + 12

abbrev pub decreases-if_one : goal.decreases-if_one
decreases-if_one l = 16 * l.depth + 12

abbrev pub decreases-if_else : goal.decreases-if_else
decreases-if_else l = 16 * l.depth + 12

abbrev pub decreases-while_loop : goal.decreases-while_loop
decreases-while_loop l = 16 * l.depth + 12

abbrev pub decreases-do_loop : goal.decreases-do_loop
decreases-do_loop l = 16 * l.depth + 12

abbrev pub decreases-for_loop : goal.decreases-for_loop
decreases-for_loop l = 16 * l.depth + 12

abbrev pub decreases-switch : goal.decreases-switch
decreases-switch l = 16 * l.depth + 12

abbrev pub decreases-if_with : goal.decreases-if_with
decreases-if_with l = 16 * l.depth + 11

abbrev pub decreases-if_else_with : goal.decreases-if_else_with
decreases-if_else_with l = 16 * l.depth + 11

abbrev pub decreases-while_with : goal.decreases-while_with
decreases-while_with l = 16 * l.depth + 11

abbrev pub decreases-do_with : goal.decreases-do_with
decreases-do_with l = 16 * l.depth + 11

abbrev pub decreases-for_with : goal.decreases-for_with
decreases-for_with l = 16 * l.depth + 11

abbrev pub decreases-switch_with : goal.decreases-switch_with
decreases-switch_with l = 16 * l.depth + 11

abbrev pub decreases-switch_body : goal.decreases-switch_body
decreases-switch_body l = 16 * l.depth + 10

abbrev pub decreases-switch_items : goal.decreases-switch_items
decreases-switch_items l = 16 * l.depth + 9

abbrev pub decreases-all_items : goal.decreases-all_items
decreases-all_items l = 16 * l.depth + 9

abbrev pub decreases-switch_item : goal.decreases-switch_item
decreases-switch_item l = 16 * l.depth + 8

abbrev pub decreases-further_item : goal.decreases-further_item
decreases-further_item l = 16 * l.depth + 7

abbrev pub decreases-substatement : goal.decreases-substatement
decreases-substatement l = 16 * l.depth + 8

abbrev pub decreases-all_items-loop-part : goal.decreases-all_items-loop-part
decreases-all_items-loop-part l = length l.left

abbrev pub invariant-all_items-loop-part : goal.invariant-all_items-loop-part
invariant-all_items-loop-part l = record {
  whole : IsWhole l.work.nodes;
  keeps : Keeps l.fn.work l.work;
  parts : PartsWithin l.work l.depth l.left;
  found : (xs : Syns) → AreParts l.fn.work l.fn.kids xs →
      SoFar (λ r. r.item (context_in l.fn.work l.fn.context)) l.fn.work l.work xs l.left l.items;
}

abbrev pub decreases-switch_items-loop-part : goal.decreases-switch_items-loop-part
decreases-switch_items-loop-part l = length l.left

abbrev pub invariant-switch_items-loop-part : goal.invariant-switch_items-loop-part
invariant-switch_items-loop-part l = record {
  whole : IsWhole l.work.nodes;
  keeps : Keeps l.fn.work l.work;
  parts : PartsWithin l.work l.depth l.left;
  found : (xs : Syns) → AreParts l.fn.work l.fn.kids xs →
      CasesSoFar (context_in l.fn.work l.fn.context)
      (type_in l.fn.work.nodes l.fn.of) l.fn.work l.work xs l.left l.cases;
}
