use Rattle.std.proofs.Common.{◌≡◌, ◌-◌, ◌<◌, length, ap, ◌∙◌, arith}
use Rattle.c_plain_parts.proofs.Backwards.{at_some}
use Rattle.c_plain_parts.proofs.Shown.{routines_count}
use Rattle.c_plain_parts.proofs.MainFunction.{no_main_yet, main_turn, main_is}
use Rattle.c_plain_rules.proofs.main_function.main_of.Goals as goal

pub loop-i-init : goal.loop-i-init
loop-i-init c = λ s h. no_main_yet s.routines c.in_ok-n.n
    (c.in_ok-n.ensures ∙ ap length c.as_slice.ensures ∙ routines_count c.args.work.now s h)

pub loop-i-preserved : goal.loop-i-preserved
loop-i-preserved c = λ s h.
    let n = c.in_ok-n.n in
    let i = c.loop-i.i in
    let lt : i < n = c.loop-i-test.true in
    let z = c.in_ok-n.ensures ∙ ap length c.as_slice.ensures ∙ routines_count c.args.work.now s h in
    let x = at_some s.routines (n - 1 - i) (omega arith) in
    main_turn s.routines n i x.0 c.is_main-test.result c.loop-i.found _ lt x.1
    (c.is_main-test.ensures s x.0 h x.1) c.main_or-found.ensures (c.loop-i.invariant s h)

pub returns : goal.returns
returns c = main_is c.args.work.now c.loop-i.found c.in_ok-n.n c.loop-i.i c.loop-i-test.false c.loop-i.invariant

pub is_main-test-requires-clause-there : goal.is_main-test-requires-clause-there
is_main-test-requires-clause-there c =
    let a : c.loop-i.i < c.in_ok-n.n = c.loop-i-test.true in
    let b : c.in_ok-n.n ≡ length c.args.work.now.nodes.p.funs = c.in_ok-n.ensures ∙ ap length c.as_slice.ensures in
    omega arith
