use Rattle.c_statements.proofs.Initializing.{items_begin}
use Rattle.c_statements.proofs.filling.declare_variable.Goals as goal

pub returns : goal.returns
returns c = λ p. items_begin c.args.work.now c.args.k p c.in_ok-items.items c.requires c.in_ok-items.ensures.vars
    c.in_ok-items.ensures.actions
