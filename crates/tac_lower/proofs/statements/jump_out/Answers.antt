use Rattle.std.proofs.lemmas.Result.{IfOk-weaker}
use Rattle.tac_lower.proofs.Stated.{jumps_out, stays}
use Rattle.tac_lower.proofs.statements.jump_out.Goals as goal

pub returns-in-None-clause-is : goal.returns-in-None-clause-is
returns-in-None-clause-is c = stays _ c.in-None.is

pub returns-in-Some-clause-is : goal.returns-in-Some-clause-is
returns-in-Some-clause-is c = IfOk-weaker c.jump.result _ _ (λ q h. jumps_out c.in-Some.is h) c.jump.ensures.emits
