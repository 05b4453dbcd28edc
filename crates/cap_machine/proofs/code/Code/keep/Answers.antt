use Rattle.std.proofs.Common.{ap, arith}
use Rattle.std.specs.Prelude.{slice_set}
use Rattle.cap_machine.specs.declared.code.Code.{Code}
use Rattle.cap_machine.specs.declared.code.Decoded.{Decoded}
use Rattle.cap_machine.proofs.KeptCode.{keep_current}
use Rattle.cap_machine.proofs.code.Code.keep.Goals as goal

pub returns-clause-current : goal.returns-clause-current
returns-clause-current c m has memory fetches =
    let old : Code = c.args.self.now in
    let slot : Decoded = record { at = c.args.at; instruction = c.args.instruction } in
    let new : Code = record old {
      low = c.min-self.result;
      last = c.max-self.result;
      slots = slice_set old.slots c.slot_of-k.result slot;
    } in
    keep_current old new m c.args.at c.args.instruction (ap (λ k. slice_set old.slots k slot) c.slot_of-k.ensures)
    (omega (arith, c.min-self.ensures)) (omega (arith, c.min-self.ensures)) (omega (arith, c.max-self.ensures))
    (omega (arith, c.max-self.ensures)) memory fetches has
