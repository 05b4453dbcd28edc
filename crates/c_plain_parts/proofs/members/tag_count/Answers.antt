use Rattle.c_plain_parts.proofs.members.tag_count.Goals as goal

pub returns : goal.returns
returns c = λ s h. c.tag_count.ensures c.args.work.now.nodes.p s h.stands
