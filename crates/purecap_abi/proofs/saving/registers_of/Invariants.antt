use Rattle.std.proofs.Common.{◌≡◌, ◌≤◌, length, take}
use Rattle.std.specs.List.{filter}
use Rattle.purecap_abi.specs.Saving.{is_home}
use Rattle.purecap_abi.proofs.saving.registers_of.Given as goal

abbrev pub invariant-loop-register : goal.invariant-loop-register
invariant-loop-register l = record {
  value : l.count ≡ length (filter (is_home l.places.homes) (take l.register-index l.register-items));
  few : l.count ≤ l.register-index;
}
