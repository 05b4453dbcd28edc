use Rattle.std.proofs.Common.{◌≡◌, ◌<◌, length, ap, ◌∙◌, arith}
use Rattle.c_plain_rules.proofs.Shown.{routines_count}
use Rattle.c_finish.proofs.Functions.{no_routines, routines_all, no_bodies}
use Rattle.c_finish.proofs.routines.routines.Goals as goal

pub loop-k-init : goal.loop-k-init
loop-k-init c = record {
  are = λ s h. no_routines c.args.work.now s c.new-list.result.items c.new-list.ensures.items;
  bodies = no_bodies c.args.work.now c.new-list.result.items c.new-list.ensures.items;
}

pub loop-k-preserved : goal.loop-k-preserved
loop-k-preserved c = record {
  are = λ s h.
      let a : c.loop-k.k < c.in_ok-n.n = c.loop-k-test.true in
      let z = c.in_ok-n.ensures ∙ ap length c.as_slice.ensures ∙ routines_count c.args.work.now s h in
      c.in_ok-add_routine.ensures.adds s h (omega arith) (c.loop-k.invariant.are s h);
  bodies = c.in_ok-add_routine.ensures.bodies c.loop-k.invariant.bodies;
}

pub returns-clause-are : goal.returns-clause-are
returns-clause-are c = λ s h.
    let z = c.in_ok-n.ensures ∙ ap length c.as_slice.ensures ∙ routines_count c.args.work.now s h in
    routines_all c.args.work.now s c.loop-k.k c.loop-k.list.items (omega arith) (c.loop-k.invariant.are s h)

pub add_routine-requires-clause-there : goal.add_routine-requires-clause-there
add_routine-requires-clause-there c =
    let a : c.loop-k.k < c.in_ok-n.n = c.loop-k-test.true in
    let b : c.in_ok-n.n ≡ length c.args.work.now.nodes.p.funs = c.in_ok-n.ensures ∙ ap length c.as_slice.ensures in
    omega arith
