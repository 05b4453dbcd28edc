use Rattle.c_plain_rules.proofs.Depth.{depth_few}
use Rattle.c_plain_rules.proofs.depths.greatest_depth.Goals as goal

pub returns : goal.returns
returns c = λ k x p. record {
  syntax = x;
  is = p;
  within = rw c.node_count.ensures (depth_few c.args.work.now.tree.now.nodes k x p.stands);
}
