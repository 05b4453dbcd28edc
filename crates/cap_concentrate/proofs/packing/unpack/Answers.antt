use Rattle.std.proofs.Common.{◌∙◌, ◌==◌, ap, arith}
use Rattle.std.proofs.lemmas.Nat.{and_mask}
use Rattle.cap_concentrate.specs.Packing.{bits_of, fields_of, same_fields}
use Rattle.cap_concentrate.proofs.Packed.{bits_of-fields_of}
use Rattle.cap_concentrate.proofs.packing.unpack.Goals as goal

pub returns-clause-fields : goal.returns-clause-fields
unfolding fields_of
returns-clause-fields c = same_fields _ _ (record {
  user = omega arith;
  perms = and_mask _ 12;
  reserved = and_mask _ 2;
  flag = ap (λ n. n == 1) (and_mask _ 1);
  otype = and_mask _ 18;
  internal = ap (λ n. n == 1) (and_mask _ 1);
  t = and_mask _ 12;
  b = and_mask _ 14;
  address = and_mask _ 64;
})

pub returns-clause-back : goal.returns-clause-back
returns-clause-back c = ap bits_of (returns-clause-fields c) ∙ bits_of-fields_of c.args.bits (omega arith)
