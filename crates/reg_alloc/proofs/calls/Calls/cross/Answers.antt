use Rattle.std.proofs.lemmas.Bool.{false≢true}
use Rattle.reg_alloc.proofs.NextCall.{crossed_iff, uncrossed}
use Rattle.reg_alloc.proofs.calls.Calls.cross.Goals as goal

pub returns-in-Some : goal.returns-in-Some
returns-in-Some c = crossed_iff c.args.self.now.numbers.items c.args.v c.in-Some.c (c.in-Some.ensures {u = tt})

pub returns-in-None : goal.returns-in-None
returns-in-None c = (
  λ f. absurd (false≢true f),
  λ x. absurd (uncrossed c.args.self.now.numbers.items c.args.v (c.in-None.ensures {u = tt}) x),
)
