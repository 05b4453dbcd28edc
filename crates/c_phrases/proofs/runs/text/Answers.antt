use Rattle.std.proofs.lemmas.Result.{IfOk-weaker}
use Rattle.std.proofs.Common.{arith}
use Rattle.c_phrases.proofs.Paying.{noded, owed_owed}
use Rattle.c_phrases.proofs.runs.text.Goals as goal

pub returns-clause-size : goal.returns-clause-size
returns-clause-size c = IfOk-weaker c.join.result _ _
    (λ p e. owed_owed c.in_ok-parts.ensures.size (noded c.pieces.new.cursor c.join.new.self e
    c.join.ensures.rest)) c.join.ensures.size

pub returns-clause-low : goal.returns-clause-low
returns-clause-low c = IfOk-weaker c.join.result _ _
    (λ p e. omega (arith, e, c.if-parts-below.false)) c.join.ensures.low
