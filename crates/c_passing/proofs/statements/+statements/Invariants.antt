use Rattle.std.proofs.Common.{◌+◌, ◌*◌, take, map}
use Rattle.c_passing.specs.Lists.{hidden_of_each}
use Rattle.c_passing.specs.Passes.{written_before, AddsActions, ArePassedActions}
use Rattle.c_passing.proofs.statements.+statements.Given as goal

abbrev pub decreases-statement : goal.decreases-statement
decreases-statement l = 3 * l.k + 2

abbrev pub decreases-part : goal.decreases-part
decreases-part l = 3 * l.limit

abbrev pub decreases-statements : goal.decreases-statements
decreases-statements l = 3 * l.limit + 1

abbrev pub invariant-statements-loop-k : goal.invariant-statements-loop-k
invariant-statements-loop-k l =
    let s = l.source in
    let xs = map (written_before s l.limit) (take l.k-index l.ks) in
    AddsActions s l.initial.out l.out (λ names. hidden_of_each names xs)
    (ArePassedActions s l.initial.out l.out xs l.initial.js.items l.js.items)
