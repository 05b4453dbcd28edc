use Rattle.std.proofs.Common.{◌≡◌, ◌-◌, ◌<◌, length, ap, ◌∙◌, arith}
use Rattle.c_tree.specs.Programs.{routine_faults}
use Rattle.c_plain_parts.proofs.Backwards.{at_some}
use Rattle.c_plain_parts.proofs.Faulting.{begun, turn_back, over}
use Rattle.c_plain_parts.proofs.Shown.{routines_count}
use Rattle.c_plain_parts.proofs.faults.function_faults.Goals as goal

pub loop-i-init : goal.loop-i-init
loop-i-init c = λ s h. begun routine_faults s.routines c.in_ok-n.n _
    (c.in_ok-n.ensures ∙ ap length c.as_slice.ensures ∙ routines_count c.args.work.now s h)

pub loop-i-preserved : goal.loop-i-preserved
loop-i-preserved c = λ s h.
    let n = c.in_ok-n.n in
    let i = c.loop-i.i in
    let lt : i < n = c.loop-i-test.true in
    let e : n ≡ length s.routines =
    c.in_ok-n.ensures ∙ ap length c.as_slice.ensures ∙ routines_count c.args.work.now s h in
    let x = at_some s.routines (n - 1 - i) (omega arith) in
    turn_back routine_faults s.routines n i x.0 _ _ _ lt x.1 (c.loop-i.invariant s h)
    (c.function_fault-best.ensures s x.0 h x.1)

pub returns : goal.returns
returns c = λ s h. over routine_faults s.routines c.in_ok-n.n c.loop-i.i _ _ c.loop-i-test.false
    (c.loop-i.invariant s h)

pub function_fault-best-requires-clause-there : goal.function_fault-best-requires-clause-there
function_fault-best-requires-clause-there c =
    let a : c.loop-i.i < c.in_ok-n.n = c.loop-i-test.true in
    let b : c.in_ok-n.n ≡ length c.args.work.now.nodes.p.funs = c.in_ok-n.ensures ∙ ap length c.as_slice.ensures in
    omega arith
