use Rattle.c_elaborator.specs.declared.work.Work.{Work}
use Rattle.c_elab.proofs.Ending.{body_left}
use Rattle.c_elab.proofs.bodies.leave_body.Goals as goal

pub returns : goal.returns
returns c =
    let w : Work = c.args.work.now in
    body_left w c.take_locals.new.self c.leave.new.self c.clear.new.self c.args.k c.args.count c.args.body
    c.requires.whole c.requires.none c.clear.ensures.items c.take_locals.ensures.file c.leave.ensures.file
    (c.take_locals.ensures.none w.nodes.p) (c.leave.ensures.is w.nodes.p)
