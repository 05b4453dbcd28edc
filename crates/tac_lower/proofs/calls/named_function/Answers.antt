use Rattle.tac_lower.proofs.Calling.{named}
use Rattle.tac_lower.proofs.calls.named_function.Goals as goal

pub returns-in-Fun-clause-signed : goal.returns-in-Fun-clause-signed
returns-in-Fun-clause-signed c = λ r ps of.
    named c.args.cx.p.now c.args.cx.d.now c.args.cx.types.now c.requires.ready c.args.f c.in-Decay.a c.in-Fun.n _ _ r ps
    c.requires.typed c.in_ok-e.ensures c.in-Decay.is c.in_ok-n.ensures c.in-Fun.is of
