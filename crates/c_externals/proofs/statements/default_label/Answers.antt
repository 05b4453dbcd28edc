use Rattle.std.proofs.lemmas.Result.{IfOk-weaker}
use Rattle.std.proofs.Common.{refl}
use Rattle.c_phrases.proofs.Paying.{took, noded, then_owed, owes}
use Rattle.c_externals.proofs.statements.default_label.Goals as goal

pub returns-clause-size : goal.returns-clause-size
returns-clause-size c = IfOk-weaker c.leaf.result _ _
    (λ p e. owes (then_owed {m = 0} (took c.args.cursor.now c.expect.new.self c.expect.ensures.nodes
    c.in_ok-expect.ensures.size)
    (noded c.expect.new.self c.leaf.new.self e c.leaf.ensures.rest) refl)) c.leaf.ensures.size
