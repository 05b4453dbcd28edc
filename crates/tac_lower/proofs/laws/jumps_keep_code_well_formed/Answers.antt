use Rattle.tac_emit.proofs.Labels.{jump_grown, branch_grown, back_grown}
use Rattle.tac_lower.proofs.laws.jumps_keep_code_well_formed.Goals as goal

pub returns : goal.returns
returns c = record { jump = jump_grown; branch = branch_grown; back = back_grown }
