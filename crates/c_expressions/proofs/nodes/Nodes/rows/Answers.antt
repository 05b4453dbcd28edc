use Rattle.c_expressions.proofs.Arrays.{rows_more}
use Rattle.c_expressions.proofs.nodes.Nodes.rows.Goals as goal

pub loop-of-preserved : goal.loop-of-preserved
loop-of-preserved c = (
  c.in-Array.ensures.there,
  rw c.in_ok-push-in-Array.ensures.items (rows_more _ c.in-Array.count _ _ _ c.loop-of.invariant.1
      c.in-Array.ensures.is),
)
