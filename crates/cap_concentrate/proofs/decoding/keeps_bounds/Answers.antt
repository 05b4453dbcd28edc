use Rattle.std.proofs.Common.{refl}
use Rattle.cap_concentrate.proofs.Block.{same_in_block}
use Rattle.cap_concentrate.proofs.decoding.keeps_bounds.Goals as goal

pub returns-then-address-f-clause-same : goal.returns-then-address-f-clause-same
returns-then-address-f-clause-same c = (
  λ _. same_in_block c.args.f.internal c.args.f.t c.args.f.b c.args.address c.args.f.address c.if-address-f.true,
  λ _. refl,
)
