use Rattle.std.proofs.Common.{refl}
use Rattle.c_elaborator.proofs.Checking.{built}
use Rattle.c_elaborator.proofs.work.Work.leaf.Goals as goal

pub returns : goal.returns
returns c = built c.args.self.now _ _ _ _ c.in_ok-node.ensures (λ s k. refl)
