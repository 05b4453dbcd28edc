use Rattle.c_elab.proofs.Opening.{opens}
use Rattle.c_elab.proofs.parameters.open_body.Goals as goal

pub returns : goal.returns
returns c = opens c.args.work.now c.take_locals.new.self c.add_parameters.new.scopes c.reopen.new.self c.clear.new.self
    c.args.p c.requires.whole c.clear.ensures.items c.take_locals.ensures.file c.take_locals.ensures.none
    (rw c.as_slice.ensures.value at c.in_ok-add_parameters.ensures) c.reopen.ensures.file c.in_ok-reopen.ensures.ok
