use Rattle.std.proofs.Common.{◌-◌, ◌*◌, ◌≤◌}
use Rattle.std.specs.Prelude.{max}
use Rattle.select_words.specs.Entries.{ForEach, StackWords}
use Rattle.rv_select.specs.Choosing.{chosen}
use Rattle.rv_emit.specs.Growing.{Grows, Puts}
use Rattle.rv_select.specs.Parameters.{TakesParameters}
use Rattle.rv_select.proofs.functions.stack_parameters.Given as goal

abbrev pub invariant-loop-k : goal.invariant-loop-k
invariant-loop-k l = record {
  grown : Grows (6 * (l.k - 8)) l.fn.code l.code;
  end : l.k ≤ max 8 l.params;
  words : TakesParameters l.f l.params
      → Puts (ForEach (StackWords (chosen l.f)) 8 (l.k - 8)) l.fn.code l.code;
}
