use Rattle.std.proofs.Common.{arith}
use Rattle.std.proofs.lemmas.Bool.{false≢true}
use Rattle.reg_alloc.proofs.checking.is_apart_from_earlier.Goals as goal

pub returns-then-not-is_apart : goal.returns-then-not-is_apart
returns-then-not-is_apart c =
    (λ f. absurd (false≢true f), λ all. c.if-not-is_apart.ensures.1 (all c.loop-j.j (omega arith)))
