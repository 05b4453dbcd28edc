use Rattle.std.proofs.Common.{arith}
use Rattle.std.proofs.lemmas.Bool.{false≢true}
use Rattle.reg_alloc.proofs.checking.all_apart.Goals as goal

pub returns-then-not-is_apart_from_earlier : goal.returns-then-not-is_apart_from_earlier
returns-then-not-is_apart_from_earlier c = (
  λ f. absurd (false≢true f),
  λ all. c.if-not-is_apart_from_earlier.ensures.1 (λ j l. all c.loop-i.i j l (omega arith)),
)
