use Rattle.std.proofs.Common.{arith}
use Rattle.c_initializers.specs.declared.slots.Slot.{Slot}
use Rattle.c_initializers.proofs.FoundLaws.{started, waits-more, waits-all}
use Rattle.c_initializers.proofs.statics.start_known.Goals as goal

pub loop-left-preserved : goal.loop-left-preserved
loop-left-preserved c =
    let d : Slot = record { at = 0; of = 0; value = 0; first = record { line = 0; col = 0 } } in
    record {
      within = omega arith;
      waits = waits-more c.args.work.now c.loop-left.work c.ask_for.new.work c.args.slots.now c.args.known.now
          c.loop-left.left d c.index-known-left.result
          (omega arith) c.loop-left.invariant.within c.requires.length c.index-known-left.is c.loop-left.invariant.waits
          c.in_ok-ask_for.ensures;
    }

pub returns : goal.returns
returns c =
    started c.args.work.now c.loop-left.work c.args.slots.now c.args.known.now c.in_ok-found.found c.requires.whole
    c.requires.known c.in_ok-found.ensures
    (waits-all c.args.work.now c.loop-left.work c.args.slots.now c.args.known.now c.loop-left.left
    (omega arith) c.loop-left.invariant.waits)
