use Rattle.std.proofs.Common.{◌∙◌}
use Rattle.c_finish.proofs.Globals.{links_push, links_all}
use Rattle.c_finish.proofs.objects.links_of.Goals as goal

pub loop-i-preserved : goal.loop-i-preserved
loop-i-preserved c = λ s h.
    links_push s c.loop-i.links.items c.push.new.self.items c.args.starts.now c.loop-i.i c.start_at-start.result
    c.link_of-link.result c.start_at-start.ensures c.in_ok-push.ensures.items (c.link_of-link.ensures s h)
    (c.loop-i.invariant s h)

pub returns : goal.returns
returns c = λ s h. c.loop-i.invariant s h ∙ links_all s c.args.starts.now c.loop-i.i c.loop-i-test.false

pub link_of-link-requires-clause-near : goal.link_of-link-requires-clause-near
link_of-link-requires-clause-near c = c.requires.near c.loop-i.i c.start_at-start.result c.start_at-start.ensures
