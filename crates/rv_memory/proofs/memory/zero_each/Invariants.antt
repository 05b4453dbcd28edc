use Rattle.std.proofs.Common.{◌≡◌, ◌++◌}
use Rattle.select_words.specs.Zeroing.{stores_at}
use Rattle.rv_emit.specs.Growing.{Grows}
use Rattle.rv_memory.proofs.memory.zero_each.Given as goal

abbrev pub invariant-loop-k : goal.invariant-loop-k
invariant-loop-k l = record {
  grown : Grows l.k l.fn.code l.code;
  text : l.code.text ≡ l.fn.code.text ++ stores_at l.at l.k;
}
