use Rattle.std.proofs.Common.{◌≤◌, length, drop}
use Rattle.c_tree.specs.Declarators.{plainly}
use Rattle.c_expressions.specs.Nodes.{type_in}
use Rattle.c_declarators.specs.Forming.{MakesOf, all_on}
use Rattle.c_declarators.proofs.forming.form.Given as goal

abbrev pub invariant-loop-left : goal.invariant-loop-left
invariant-loop-left l = record {
  in_list : l.left ≤ length l.wraps;
  makes : MakesOf l.fn.nodes l.nodes l.formed
      (λ s. all_on s l.fn.nodes (drop l.left l.wraps) (plainly (type_in l.fn.nodes l.fn.of)));
}

abbrev pub decreases-loop-left : goal.decreases-loop-left
decreases-loop-left l = l.left
