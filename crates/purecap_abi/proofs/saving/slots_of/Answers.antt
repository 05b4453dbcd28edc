use Rattle.std.proofs.Common.{arith}
use Rattle.std.proofs.lemmas.Grind.{common_steps}
use Rattle.reg_alloc.specs.declared.places.Home.TheVariants.{Register}
use Rattle.purecap_abi.proofs.Counts.{slot_count_more}
use Rattle.purecap_abi.proofs.saving.slots_of.Goals as goal

pub loop-home-preserved : goal.loop-home-preserved
loop-home-preserved c = record {
  value =
      let e = slot_count_more c.as_slice-home-items.result.now c.loop-home.home-index
      (Register 0) c.loop-home-test.true in
      grind (arith, common_steps);
  small = grind (arith, common_steps);
}
