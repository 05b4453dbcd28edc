use Rattle.std.proofs.Common.{◌≡◌, ℕ, None, slice_index_or, vec_len}
use Rattle.tac_live.proofs.uses.no_uses.Given as goal

abbrev pub invariant-loop : goal.invariant-loop
invariant-loop l = record {
  len : vec_len l.uses ≡ l.counter;
  none : (t : ℕ) →
      slice_index_or l.uses.items t None ≡ None;
}
