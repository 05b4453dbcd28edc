use Rattle.std.proofs.Common.{◌≡◌}
use Rattle.c_tree.specs.Terms.{numbers_from}
use Rattle.c_plain_rules.proofs.bodies.numbers_below.Given as goal

abbrev pub invariant-loop-k : goal.invariant-loop-k
invariant-loop-k l = l.numbers.items ≡ numbers_from 0 l.k
