use Rattle.std.proofs.Common.{◌-◌, ◌*◌, ◌≤◌, length}
use Rattle.std.specs.Prelude.{max}
use Rattle.select_words.specs.Entries.{ForEach}
use Rattle.select_words.specs.Passing.{StackedWords}
use Rattle.rv_select.specs.Choosing.{chosen}
use Rattle.rv_emit.specs.Growing.{Grows, Puts}
use Rattle.rv_select.specs.Passed.{ChoosesArguments}
use Rattle.rv_select.proofs.calls.stack_arguments.Given as goal

abbrev pub invariant-loop-k : goal.invariant-loop-k
invariant-loop-k l = record {
  grown : Grows (6 * (l.k - 8)) l.fn.code l.code;
  end : l.k ≤ max 8 (length l.args);
  words : ChoosesArguments l.f l.args
      → Puts (ForEach (StackedWords (chosen l.f) l.args) 8 (l.k - 8)) l.fn.code l.code;
}
