use Rattle.std.proofs.Common.{refl}
use Rattle.cap_concentrate.specs.Packing.{same_fields}
use Rattle.cap_ops.specs.Capability.{with_mask}
use Rattle.cap_ops.proofs.fields.with_mask.Goals as goal

pub returns : goal.returns
unfolding with_mask
returns c = same_fields _ _ (record {
  user = refl;
  perms = refl;
  reserved = refl;
  flag = refl;
  otype = refl;
  internal = refl;
  t = refl;
  b = refl;
  address = refl;
})
