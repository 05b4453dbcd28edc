use Rattle.std.proofs.Common.{◌≡◌, length, take}
use Rattle.c_passing.specs.Numbered.{AreListed}
use Rattle.c_passing.proofs.types.listed.Given as goal

abbrev pub invariant-loop-c : goal.invariant-loop-c
invariant-loop-c l = record {
  count : length l.whole.items ≡ l.c-index;
  are : AreListed l.types.numbers.items (take l.c-index l.types.list.items) l.whole.items;
}
