use Rattle.std.proofs.Common.{◌≡◌, ◌≤◌, ◌++◌, ◌-◌}
use Rattle.c_tree.specs.Terms.{numbers_from}
use Rattle.passing_steps.proofs.blocks.add_numbers.Given as goal

abbrev pub invariant-loop-k : goal.invariant-loop-k
invariant-loop-k l = record {
  items : l.list.items ≡ l.initial.list.items ++ numbers_from l.from (l.k - l.from);
  none : l.to ≤ l.from → l.k ≡ l.from;
}
