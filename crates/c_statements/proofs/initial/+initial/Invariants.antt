use Rattle.std.proofs.Common.{◌≡◌, ◌+◌, ◌*◌, drop}
use Rattle.c_tree.specs.Syntax.{Syns}
use Rattle.c_expressions.specs.Nodes.{IsWhole}
use Rattle.c_elaborator.specs.Answers.{Keeps}
use Rattle.c_elaborator.specs.Parts.{AreParts}
use Rattle.c_statements.specs.Initial.{SoFar}
use Rattle.c_statements.proofs.initial.+initial.Given as goal

abbrev pub decreases-initializer : goal.decreases-initializer
decreases-initializer l = 4 * l.depth

abbrev pub decreases-braced : goal.decreases-braced
decreases-braced l = 4 * l.depth + 3

abbrev pub decreases-list : goal.decreases-list
decreases-list l = 4 * l.depth + 2

abbrev pub decreases-listed : goal.decreases-listed
decreases-listed l = 4 * l.depth + 1

abbrev pub invariant-listed-loop-k : goal.invariant-listed-loop-k
invariant-listed-loop-k l =
    let u = l.fn.work in
    record {
      keeps : Keeps u l.work;
      whole : IsWhole l.work.nodes;
      number : l.number ≡ l.k-index;
      given : (xs : Syns) → AreParts u l.kids xs →
          SoFar u l.work l.goal l.brace xs l.k-index (drop l.k-index l.kids) l.slots.items;
    }
