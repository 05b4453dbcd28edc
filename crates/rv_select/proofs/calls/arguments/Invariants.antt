use Rattle.std.proofs.Common.{◌*◌}
use Rattle.select_words.specs.Entries.{ForEach}
use Rattle.select_words.specs.Passing.{BroughtWords}
use Rattle.rv_select.specs.Choosing.{chosen}
use Rattle.rv_emit.specs.Growing.{Grows, Puts}
use Rattle.rv_select.specs.Passed.{ChoosesArguments}
use Rattle.rv_select.specs.Selected.{AreAside}
use Rattle.rv_select.proofs.calls.arguments.Given as goal

abbrev pub invariant-loop-other : goal.invariant-loop-other
invariant-loop-other l = record {
  grown : Grows (3 * l.other-index) l.initial.code l.code;
  words : ChoosesArguments l.f l.args
      → Puts (λ ws. AreAside (chosen l.f) l.args → ForEach (BroughtWords (chosen l.f) l.args) 0 l.other-index ws)
      l.initial.code l.code;
}
