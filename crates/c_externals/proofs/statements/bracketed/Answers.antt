use Rattle.std.proofs.Common.{refl}
use Rattle.c_phrases.proofs.Paying.{took, then_paid, pays}
use Rattle.c_externals.proofs.statements.bracketed.Goals as goal

pub returns-clause-size : goal.returns-clause-size
returns-clause-size c =
    pays (then_paid c.in_ok-part.ensures.size
    (took c.read.new.cursor c.expect.new.self c.expect.ensures.nodes c.in_ok-expect.ensures.size)) refl

pub returns-clause-low : goal.returns-clause-low
returns-clause-low c = c.in_ok-part.ensures.low
