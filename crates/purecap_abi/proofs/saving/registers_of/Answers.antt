use Rattle.std.proofs.Common.{arith}
use Rattle.std.proofs.lemmas.Grind.{common_steps}
use Rattle.std.proofs.lemmas.List.Filters.{length-filter_more}
use Rattle.purecap_abi.specs.Saving.{is_home, kept_homes, kept_registers}
use Rattle.purecap_abi.proofs.saving.registers_of.Goals as goal

pub loop-register-preserved : goal.loop-register-preserved
loop-register-preserved c = record {
  value =
      let e = length-filter_more (is_home c.args.places.now.homes) kept_registers c.loop-register.register-index 0
      (omega arith) in
      grind (arith, common_steps);
  few = grind (arith, common_steps);
}

pub returns-clause-value : goal.returns-clause-value
unfolding kept_homes
returns-clause-value c = grind (arith, common_steps)
