use Rattle.c_elaborator.specs.declared.work.Work.{Work}
use Rattle.c_elab.proofs.Ending.{block_is, finish_is}
use Rattle.c_elab.proofs.bodies.finish_body.Goals as goal

pub returns : goal.returns
returns c =
    let u : Work = c.args.work.now in
    finish_is u c.add_statement.new.work c.end_body.new.work c.args.k c.args.count c.args.items c.args.first
    c.in_ok-body.body _ c.end_body.result c.in_ok-body.ensures
    (block_is u c.args.items c.args.first c.from_vec.result c.from_vec-2.result c.from_vec.ensures c.from_vec-2.ensures)
    c.end_body.ensures
