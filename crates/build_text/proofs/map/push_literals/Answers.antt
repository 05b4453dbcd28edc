use Rattle.build_text.proofs.Grown.{no_lines, one_line}
use Rattle.build_text.proofs.map.push_literals.Goals as goal

pub loop-k-init : goal.loop-k-init
loop-k-init c = no_lines _ _

pub loop-k-preserved : goal.loop-k-preserved
loop-k-preserved c = one_line _ _ _ _ _ c.loop-k.invariant c.in_ok-push_literal_at.ensures
