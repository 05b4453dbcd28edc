use Rattle.std.proofs.Common.{◌≡◌, [], ◌+◌, ◌*◌, ◌≤◌, ◌++◌, map}
use Rattle.std.specs.Prelude.{vec_len}
use Rattle.rv_emit.specs.Growing.{Puts}
use Rattle.rv_idioms.specs.Moves.{AreFree, moving}
use Rattle.rv_idioms.proofs.moves.move_all.Given as goal

abbrev pub invariant-loop-scratch : goal.invariant-loop-scratch
invariant-loop-scratch l = record {
  kept : l.initial.code.words ≤ l.code.words;
  few : l.code.words + 2 * vec_len l.moves ≤ l.initial.code.words + 2 * vec_len l.initial.moves;
  links : l.code.links ≡ l.initial.code.links;
  none : l.initial.moves.items ≡ [] → (l.moves.items ≡ []) × (l.code.text ≡ l.initial.code.text);
  grows : Puts (λ ws. Unit {0}) l.initial.code l.code;
  free : AreFree l.initial.moves.items → AreFree l.moves.items
      × (l.code.text ++ map moving l.moves.items ≡ l.initial.code.text ++ map moving l.initial.moves.items);
}

abbrev pub decreases-loop-scratch : goal.decreases-loop-scratch
decreases-loop-scratch l = vec_len l.moves
