use Rattle.std.proofs.Common.{List}
use Rattle.reg_alloc.specs.declared.scan.Entry.{Entry}
use Rattle.reg_alloc.specs.Scanned.{AreInOrder, HasScanned}
use Rattle.reg_alloc.proofs.Finished.{next_entry, one_more, all_scanned, placed, stay_clear, all_slots_below}
use Rattle.reg_alloc.proofs.Finished.{all_registers}
use Rattle.reg_alloc.proofs.scan.allocate.Goals as goal

pub loop-e-preserved : goal.loop-e-preserved
loop-e-preserved c =
    let d : Entry = record { interval = record { first = 0; last = 0 }; index = 0 } in
    let o : AreInOrder c.args.live.now.items c.deref-e-items.result.now =
    rw (← c.as_slice-2.ensures.value, c.deref-e-items.ensures.value) c.in_ok-entries.ensures in
    one_more c.deref-e-items.result.now c.loop-e.e-index d
    (λ (es : List Entry). HasScanned c.args.live.now.items c.in_ok-calls.calls.numbers.items es c.place.new.self)
    c.loop-e-test.true
    (c.place.ensures _ _ c.loop-e.invariant (next_entry _ _ _ d o c.loop-e-test.true))

pub returns : goal.returns
returns c =
    let o : AreInOrder c.args.live.now.items c.deref-e-items.result.now =
    rw (← c.as_slice-2.ensures.value, c.deref-e-items.ensures.value) c.in_ok-entries.ensures in
    let p = rw c.as_slice.ensures.value at c.in_ok-calls.ensures in
    let s = all_scanned _ _ _ _ _ _ _ c.loop-e-test.false c.loop-e.invariant in
    rw c.from_vec.ensures (record {
      placed = placed _ _ _ _ _ _ _ o p s;
      slots = all_slots_below _ _ _ _ _ _ o s;
      registers = all_registers _ _ _ _ _ _ _ o p s;
      arguments = stay_clear _ _ _ _ _ _ _ o p s;
    })
