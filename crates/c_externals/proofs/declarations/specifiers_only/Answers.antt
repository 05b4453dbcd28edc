use Rattle.std.proofs.lemmas.Result.{IfOk-weaker}
use Rattle.std.proofs.Common.{arith}
use Rattle.c_externals.proofs.declarations.specifiers_only.Goals as goal

pub returns-clause-size : goal.returns-clause-size
returns-clause-size c = IfOk-weaker c.make.result _ _
    (λ p e. e.0) c.make.ensures.size

pub returns-clause-low : goal.returns-clause-low
returns-clause-low c = IfOk-weaker c.make.result _ _
    (λ p e. omega (arith, e, c.in_ok-parts.ensures.size, c.requires.specifiers)) c.make.ensures.low
