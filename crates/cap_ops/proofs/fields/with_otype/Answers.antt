use Rattle.std.proofs.Common.{refl, arith}
use Rattle.cap_concentrate.specs.Packing.{same_fields}
use Rattle.cap_ops.specs.Capability.{with_otype}
use Rattle.cap_ops.proofs.fields.with_otype.Goals as goal

pub returns : goal.returns
unfolding with_otype
returns c = same_fields _ _ (record {
  user = refl;
  perms = refl;
  reserved = refl;
  flag = refl;
  otype = omega arith;
  internal = refl;
  t = refl;
  b = refl;
  address = refl;
})
