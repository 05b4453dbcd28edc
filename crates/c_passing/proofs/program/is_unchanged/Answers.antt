use Rattle.std.proofs.lemmas.Result.{IfOk-weaker}
use Rattle.c_passing.proofs.program.is_unchanged.Goals as goal

pub returns : goal.returns
returns c = IfOk-weaker c.is_ordered.result _ _ (λ b h e. (h e, c.is_plain.ensures c.if-not-is_plain.false))
    c.is_ordered.ensures
