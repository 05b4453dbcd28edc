use Rattle.std.proofs.Common.{◌≡◌, ℕ, ◌<◌, None, slice_index_or, vec_len}
use Rattle.tac_live.specs.Uses.{MatchUses}
use Rattle.tac_live.proofs.UseSteps.{IsLastControl}
use Rattle.tac_live.proofs.uses.uses_of.Given as goal

abbrev pub invariant-loop-i : goal.invariant-loop-i
invariant-loop-i l = record {
  at : l.place.at ≡ l.i-index;
  control : IsLastControl l.code l.place.at l.place.control;
  len : vec_len l.uses ≡ l.temps;
  uses : (t : ℕ) → t < l.temps → MatchUses l.code l.place.at t (slice_index_or l.uses.items t None);
}
