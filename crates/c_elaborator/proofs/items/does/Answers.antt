use Rattle.c_elaborator.proofs.Going.{added_alone}
use Rattle.c_elaborator.proofs.items.does.Goals as goal

pub returns : goal.returns
returns c = added_alone c.args.work.now c.add_statement.new.work c.in_ok-k.k _ c.in_ok-items.items c.in_ok-k.ensures
    c.in_ok-items.ensures.vars c.in_ok-items.ensures.actions
