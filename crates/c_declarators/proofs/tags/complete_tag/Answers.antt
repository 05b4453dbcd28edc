use Rattle.c_expressions.specs.declared.nodes.Nodes.{Nodes}
use Rattle.c_elaborator.specs.declared.work.Work.{Work}
use Rattle.c_declarators.proofs.Tagging.{complete_tag_declares, parts_there, parts_spelled, completes}
use Rattle.c_declarators.proofs.tags.complete_tag.Goals as goal

pub returns : goal.returns
returns c = λ ms h.
    let w : Work = c.args.work.now in
    let m : Nodes = c.fill_tag.new.nodes in
    completes w m c.args.kind c.args.tag ms c.args.pos c.fill_tag.result c.requires.whole
    c.fill_tag.ensures.declared
    (complete_tag_declares w.file.now c.args.kind c.args.tag ms c.args.pos (parts_spelled w c.args.members.items ms h))
    (c.fill_tag.ensures.is c.args.kind ms (parts_there w c.args.members.items ms c.requires.members h))
