use Rattle.std.proofs.Common.{◌≡◌, ◌≤◌, take}
use Rattle.purecap_abi.specs.Saving.{slot_count}
use Rattle.purecap_abi.proofs.saving.slots_of.Given as goal

abbrev pub invariant-loop-home : goal.invariant-loop-home
invariant-loop-home l = record {
  value : l.count ≡ slot_count (take l.home-index l.home-items);
  small : l.count ≤ 4294967296;
}
