use Rattle.std.proofs.Common.{◌≡◌, ◌-◌, ◌<◌, length, sym, ap, ◌∙◌}
use Rattle.std.specs.Prelude.{slice_get}
use Rattle.c_tree.specs.Programs.{pending_faults}
use Rattle.c_plain_parts.proofs.Faulting.{begun, turn_back, over}
use Rattle.std.proofs.lemmas.Option.{slice_get-map}
use Rattle.std.proofs.Common.{Some}
use Rattle.std.specs.Prelude.{option_map}
use Rattle.c_elaborator.specs.Work.{pending_of}
use Rattle.std.proofs.lemmas.List.{length-map}
use Rattle.c_plain_rules.proofs.faults.waiting_faults.Goals as goal

pub loop-i-init : goal.loop-i-init
loop-i-init c = λ s h. begun (pending_faults s) s.pending (length c.as_slice-waiting.result.now) _
    (ap length c.as_slice-waiting.ensures.value ∙ sym (length-map c.args.work.now.waiting.items pending_of)
    ∙ ap length h.waiting)

pub loop-i-preserved : goal.loop-i-preserved
loop-i-preserved c = λ s h.
    let xs = c.as_slice-waiting.result.now in
    let n = length xs in
    let i = c.loop-i.i in
    let lt : i < n = c.loop-i-test.true in
    let x = c.waiting_at-x.result in
    let g : slice_get xs (n - 1 - i) ≡ Some x = c.waiting_at-x.ensures in
    let e : slice_get s.pending (n - 1 - i) ≡ Some (pending_of x) =
    ap (λ ys. slice_get ys (n - 1 - i)) (sym h.waiting)
    ∙ slice_get-map pending_of c.args.work.now.waiting.items (n - 1 - i)
    ∙ ap (λ ys. option_map pending_of (slice_get ys (n - 1 - i))) (sym c.as_slice-waiting.ensures.value)
    ∙ ap (option_map pending_of) g in
    turn_back (pending_faults s) s.pending n i (pending_of x) _ _ _ lt e (c.loop-i.invariant s h)
    (c.waiting_fault-best.ensures s h)

pub returns : goal.returns
returns c = λ s h. over (pending_faults s) s.pending
    (length c.as_slice-waiting.result.now) c.loop-i.i _ _ c.loop-i-test.false (c.loop-i.invariant s h)
