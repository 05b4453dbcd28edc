use Rattle.std.proofs.Common.{◌≡◌, ◌+◌, ◌*◌, ◌++◌, length}
use Rattle.purecap_abi.specs.Ends.{keep_from}
use Rattle.purecap_abi.proofs.EndLaws.{first_homes}
use Rattle.purecap_abi.proofs.taking.keep_from.Given as goal

abbrev pub invariant-loop-register : goal.invariant-loop-register
invariant-loop-register l = record {
  code : l.code.items ≡ l.fn.code.items ++ keep_from l.way l.base l.from (first_homes l.places.homes l.register-index);
  at : l.at ≡ l.from + 16 * length (first_homes l.places.homes l.register-index);
}
