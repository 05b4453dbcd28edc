use Rattle.std.proofs.Common.{refl, ap}
use Rattle.cap_concentrate.specs.declared.fields.Fields.{Fields}
use Rattle.cap_concentrate.specs.Packing.{same_fields}
use Rattle.cap_ops.specs.Capability.{with_otype}
use Rattle.cap_machine.specs.Rows.{unsealed}
use Rattle.cap_machine.proofs.integer_rows.unsealed.Goals as goal

pub returns : goal.returns
unfolding unsealed with_otype
returns c = ap (λ (f : Fields). record c.args.c { fields = f })
    (same_fields _ _ (record {
      user = refl;
      perms = refl;
      reserved = refl;
      flag = refl;
      otype = refl;
      internal = refl;
      t = refl;
      b = refl;
      address = refl;
    }))
