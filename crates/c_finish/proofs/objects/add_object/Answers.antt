use Rattle.std.proofs.Common.{sym, ap, ◌∙◌}
use Rattle.c_types.specs.Members.{is_defined}
use Rattle.c_plain_rules.proofs.Backwards.{at_some}
use Rattle.c_finish.proofs.Globals.{objects_push, objects_skip}
use Rattle.c_finish.proofs.objects.add_object.Goals as goal

pub returns-then-not-is_there : goal.returns-then-not-is_there
returns-then-not-is_there c = λ s h lt e.
    let w = c.args.work.now in
    let x = at_some s.statics c.args.k lt in
    let d = sym (c.is_defined-is_there.ensures w.nodes.p s h.stands ∙ ap is_defined x.1) ∙ c.if-not-is_there.true in
    objects_skip s _ c.args.k x.0 x.1 d e

pub returns : goal.returns
returns c = λ s h lt e.
    let w = c.args.work.now in
    let x = at_some s.statics c.args.k lt in
    let d = sym (c.is_defined-is_there.ensures w.nodes.p s h.stands ∙ ap is_defined x.1) ∙ c.if-not-is_there.false in
    objects_push w s c.args.list.now.items _ c.args.k c.in_ok-object.object x.0 x.1 c.in_ok-push.ensures.items
    (c.in_ok-object.ensures s x.0 h x.1 d) e
