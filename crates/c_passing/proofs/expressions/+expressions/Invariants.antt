use Rattle.std.proofs.Common.{◌+◌, ◌*◌, ◌∷◌, take, map}
use Rattle.c_tree.specs.Views.{operands}
use Rattle.c_passing.specs.Lists.{hidden_in_each}
use Rattle.c_passing.specs.Passes.{written_term, AddsTerms, ArePassed, ArePassedArguments, AreCounted}
use Rattle.c_passing.proofs.Least.{least_above}
use Rattle.c_passing.proofs.expressions.+expressions.Given as goal

abbrev pub decreases-arguments : goal.decreases-arguments
decreases-arguments l = 4 * least_above l.xs.now + 1

abbrev pub decreases-call_plainly : goal.decreases-call_plainly
decreases-call_plainly l = 4 * least_above l.xs.now + 2

abbrev pub decreases-call_by_result : goal.decreases-call_by_result
decreases-call_by_result l = 4 * least_above l.xs.now + 2

abbrev pub decreases-call : goal.decreases-call
decreases-call l = 4 * least_above (l.f ∷ l.xs.now) + 3

abbrev pub decreases-made_of : goal.decreases-made_of
decreases-made_of l = 4 * least_above (operands l.kind.now) + 2

abbrev pub decreases-expression : goal.decreases-expression
decreases-expression l = 4 * l.k + 4

abbrev pub decreases-expressions : goal.decreases-expressions
decreases-expressions l = 4 * least_above l.ks.now + 1

abbrev pub invariant-arguments-loop-x : goal.invariant-arguments-loop-x
invariant-arguments-loop-x l =
    let s = l.source in
    let xs = map (written_term s) (take l.x-index l.xs) in
    record {
      adds : AddsTerms s l.initial.out l.out (λ names. hidden_in_each names xs)
          (ArePassedArguments s l.initial.out l.out l.first l.pos xs l.initial.list.items l.list.items);
      counted : AreCounted s l.first l.pos xs l.h;
    }

abbrev pub invariant-expressions-loop-k : goal.invariant-expressions-loop-k
invariant-expressions-loop-k l =
    let s = l.source in
    let xs = map (written_term s) (take l.k-index l.ks) in
    AddsTerms s l.initial.out l.out (λ names. hidden_in_each names xs) (ArePassed s l.initial.out l.out xs l.js.items)
