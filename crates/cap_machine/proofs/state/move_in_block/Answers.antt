use Rattle.std.proofs.Common.{Bool, refl, sym, ap, ◌∙◌}
use Rattle.cap_concentrate.specs.declared.fields.Fields.{Fields}
use Rattle.cap_concentrate.specs.Packing.{same_fields}
use Rattle.cap_ops.specs.Capability.{with_address}
use Rattle.cap_machine.proofs.KeptBounds.{moved_in_block}
use Rattle.cap_machine.proofs.state.move_in_block.Goals as goal

pub returns : goal.returns
returns c =
    let f : Fields = c.args.c.now.fields in
    let tag : Bool = c.is_usable-c.result in
    sym (moved_in_block c.args.c.now c.args.at c.requires
    ∙ ap (λ (t : Bool). record { tag = t; fields = with_address f c.args.at }) (sym c.is_usable-c.ensures)
    ∙ ap (λ (g : Fields). record { tag = tag; fields = g }) (same_fields (with_address f c.args.at) _
    (record {
      user = refl;
      perms = refl;
      reserved = refl;
      flag = refl;
      otype = refl;
      internal = refl;
      t = refl;
      b = refl;
      address = refl;
    })))
