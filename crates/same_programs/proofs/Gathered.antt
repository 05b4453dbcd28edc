-- Programs that stand for one program are the same.
use Rattle.std.proofs.Common.{◌∙◌, sym}
use Rattle.c_tree.specs.declared.typed.Typed.{Typed}
use Rattle.c_tree.specs.Terms.{Program}
use Rattle.c_tree.specs.Views.{Shows, IsOrdered}
use Rattle.c_tree.specs.WellTyped.{WellTyped}
use Rattle.c_tree.proofs.Weighed.{weight_of_program}
use Rattle.same_programs.specs.Alike.{IsSame}
use Rattle.same_programs.proofs.Counts.{count_same}
use Rattle.same_programs.proofs.Needs.{needs_same, beginning_same, begin_same}
use Rattle.same_programs.proofs.Points.{program_points}
use Rattle.same_programs.proofs.Programs.{tree_same}

pub alike_law : (p r : Typed) (q : Program) → WellTyped p → IsOrdered r → Shows p q → Shows r q → IsSame p r
alike_law p r q w u s t =
    let o = w.ordered in
    record {
      tree = tree_same p r q o u s t (program_points p q w s);
      needs = needs_same p r o u q s t;
      pointers = beginning_same p r o u q s t;
      bytes = begin_same p r o u q s t;
      weight = weight_of_program p q o s ∙ sym (weight_of_program r q u t);
      count = count_same p r q o u s t;
    }
