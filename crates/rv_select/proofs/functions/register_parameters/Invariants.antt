use Rattle.std.proofs.Common.{◌≡◌, ◌+◌, ◌*◌, ◌≤◌}
use Rattle.std.specs.Prelude.{vec_len}
use Rattle.rv_select.specs.Choosing.{chosen}
use Rattle.rv_emit.specs.Growing.{Puts}
use Rattle.rv_select.specs.Parameters.{TakesParameters, AreSettled}
use Rattle.rv_select.proofs.functions.register_parameters.Given as goal

abbrev pub invariant-loop-k : goal.invariant-loop-k
invariant-loop-k l = record {
  kept : l.fn.code.words ≤ l.code.words;
  few : l.code.words + 2 * vec_len l.moves ≤ l.fn.code.words + 3 * l.k;
  links : l.code.links ≡ l.fn.code.links;
  words : TakesParameters l.f l.params → Puts (AreSettled (chosen l.f) l.k l.moves.items) l.fn.code l.code;
}
