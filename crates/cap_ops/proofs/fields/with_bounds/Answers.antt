use Rattle.std.proofs.Common.{refl}
use Rattle.cap_concentrate.specs.Packing.{same_fields}
use Rattle.cap_concentrate.specs.Encoding.{with_bounds}
use Rattle.cap_ops.proofs.fields.with_bounds.Goals as goal

pub returns : goal.returns
unfolding with_bounds
returns c = same_fields _ _ (record {
  user = refl;
  perms = refl;
  reserved = refl;
  flag = refl;
  otype = refl;
  internal = c.requires.internal_is;
  t = c.requires.t_is;
  b = c.requires.b_is;
  address = refl;
})
