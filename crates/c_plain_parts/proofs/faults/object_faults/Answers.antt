use Rattle.std.proofs.Common.{◌≡◌, ◌-◌, ◌<◌, length, ap, ◌∙◌, arith}
use Rattle.c_tree.specs.Programs.{static_faults}
use Rattle.c_plain_parts.proofs.Backwards.{at_some}
use Rattle.c_plain_parts.proofs.Faulting.{begun, turn_back, over}
use Rattle.c_plain_parts.proofs.Shown.{statics_count}
use Rattle.c_plain_parts.proofs.faults.object_faults.Goals as goal

pub loop-i-init : goal.loop-i-init
loop-i-init c = λ s h. begun (static_faults s) s.statics c.in_ok-n.n _
    (c.in_ok-n.ensures ∙ ap length c.as_slice.ensures ∙ statics_count c.args.work.now s h)

pub loop-i-preserved : goal.loop-i-preserved
loop-i-preserved c = λ s h.
    let n = c.in_ok-n.n in
    let i = c.loop-i.i in
    let lt : i < n = c.loop-i-test.true in
    let e : n ≡ length s.statics =
    c.in_ok-n.ensures ∙ ap length c.as_slice.ensures ∙ statics_count c.args.work.now s h in
    let x = at_some s.statics (n - 1 - i) (omega arith) in
    turn_back (static_faults s) s.statics n i x.0 _ _ _ lt x.1 (c.loop-i.invariant s h)
    (c.object_fault-best.ensures s x.0 h x.1)

pub returns : goal.returns
returns c = λ s h. over (static_faults s) s.statics c.in_ok-n.n c.loop-i.i _ _ c.loop-i-test.false
    (c.loop-i.invariant s h)

pub object_fault-best-requires-clause-there : goal.object_fault-best-requires-clause-there
object_fault-best-requires-clause-there c =
    let a : c.loop-i.i < c.in_ok-n.n = c.loop-i-test.true in
    let b : c.in_ok-n.n ≡ length c.args.work.now.nodes.p.globals = c.in_ok-n.ensures ∙ ap length c.as_slice.ensures in
    omega arith
