-- The capability with given bounds, permissions, object type and address, its bounds in their canonical form.
use Rattle.std.specs.Prelude.{ℕ, ◌%◌, ◌^◌, true, false}
use Rattle.std.proofs.Common.{lit<}
use Rattle.std.proofs.lemmas.Nat.{mod_below}
use Rattle.cap_concentrate.specs.declared.fields.Fields.{Fields}
use Rattle.cap_concentrate.specs.Encoding.{with_bounds}
use Rattle.cap_ops.specs.declared.capability.Cap.{Cap}

-- fields with permissions of 12 bits and an object type of 18, at an address; all else is 0
abbrev pub plain_fields : ℕ → ℕ → ℕ → Fields
plain_fields perms otype address = record {
  user = 0;
  perms = perms % 4096;
  reserved = 0;
  flag = false;
  otype = otype % 2 ^ 18;
  internal = false;
  t = 0;
  b = 0;
  address = address;
  user_in_range = lit< tt;
  perms_in_range = mod_below perms 4096 (lit< tt);
  reserved_in_range = lit< tt;
  otype_in_range = mod_below otype (2 ^ 18) (lit< tt);
  t_in_range = lit< tt;
  b_in_range = lit< tt;
}

abbrev pub bounded : ℕ → ℕ → ℕ → ℕ → ℕ → Cap
bounded low high perms otype address =
    record { tag = true; fields = with_bounds (plain_fields perms otype address) low high }
