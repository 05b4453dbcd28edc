use Rattle.std.proofs.Common.{◌≡◌}
use Rattle.std.specs.Prelude.{vec_len}
use Rattle.rv_idioms.proofs.moves.redirect.Given as goal

abbrev pub invariant-loop-k : goal.invariant-loop-k
invariant-loop-k l = record { len : vec_len l.moves ≡ vec_len l.fn.moves; end : l.k-end ≡ vec_len l.fn.moves }
