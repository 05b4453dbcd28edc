use Rattle.std.proofs.Common.{◌≡◌, ℕ, ◌<◌, length}
use Rattle.std.specs.Prelude.{slice_get, Some}
use Rattle.purecap_abi.specs.Placing.{slot_at}
use Rattle.purecap_abi.proofs.frames.slots_at.Given as goal

abbrev pub invariant-loop-k : goal.invariant-loop-k
invariant-loop-k l = record {
  count : length l.slots.items ≡ l.k;
  each : (k : ℕ) → k < l.k → slice_get l.slots.items k ≡ Some (slot_at l.locals l.starts k);
}
