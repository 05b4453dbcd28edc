use Rattle.std.proofs.Common.{◌≡◌, ◌<◌, length, ap, ◌∙◌, arith}
use Rattle.std.specs.Prelude.{flat_map}
use Rattle.std.proofs.lemmas.List.{take_all}
use Rattle.c_tree.specs.Programs.{object_of}
use Rattle.c_plain_rules.proofs.Shown.{statics_count}
use Rattle.c_finish.proofs.objects.objects.Goals as goal

pub loop-k-preserved : goal.loop-k-preserved
loop-k-preserved c = λ s h.
    let a : c.loop-k.k < c.in_ok-n.n = c.loop-k-test.true in
    let z = c.in_ok-n.ensures ∙ ap length c.as_slice.ensures ∙ statics_count c.args.work.now s h in
    c.in_ok-add_object.ensures s h (omega arith) (c.loop-k.invariant s h)

pub returns : goal.returns
returns c = λ s h.
    let w = c.args.work.now in
    let z = c.in_ok-n.ensures ∙ ap length c.as_slice.ensures ∙ statics_count w s h in
    c.loop-k.invariant s h ∙ ap (flat_map (object_of s)) (take_all c.loop-k.k s.statics (omega arith))

pub add_object-requires-clause-there : goal.add_object-requires-clause-there
add_object-requires-clause-there c =
    let a : c.loop-k.k < c.in_ok-n.n = c.loop-k-test.true in
    let b : c.in_ok-n.n ≡ length c.args.work.now.nodes.p.globals = c.in_ok-n.ensures ∙ ap length c.as_slice.ensures in
    omega arith
