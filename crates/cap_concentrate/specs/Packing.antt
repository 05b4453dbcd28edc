-- The 128 bits of a capability (CHERI ISAv9, the 128-bit format).
use Rattle.std.specs.Prelude.{ℕ, ◌≡◌, ◌+◌, ◌*◌, ◌/◌, ◌%◌, ◌^◌, ◌<◌, ◌==◌, bit_xor}
use Rattle.std.proofs.Common.{lit<}
use Rattle.std.proofs.lemmas.Nat.{mod_below}
use Rattle.std.proofs.Math.Bridge.{le_prop}
use mathlib.Core.HLevel.{is_prop→PathP}
use Rattle.cap_concentrate.specs.declared.fields.Fields.{Fields}
use Rattle.cap_concentrate.specs.declared.packing.TheConstants.{NULL_BITS}
use Rattle.cap_concentrate.specs.Decoding.{one_where}

-- each field at its place
unfoldable pub bits_of : Fields → ℕ
bits_of f =
    f.address + 2 ^ 64 * f.b + 2 ^ 78 * f.t + 2 ^ 90 * one_where f.internal + 2 ^ 91 * f.otype
    + 2 ^ 109 * one_where f.flag +
    2 ^ 110 * f.reserved + 2 ^ 112 * f.perms + 2 ^ 124 * f.user

-- the fields at their places in the bits
unfoldable pub fields_of : ℕ → Fields
fields_of bits = record {
  user = bits / 2 ^ 124 % 16;
  perms = bits / 2 ^ 112 % 4096;
  reserved = bits / 2 ^ 110 % 4;
  flag = bits / 2 ^ 109 % 2 == 1;
  otype = bits / 2 ^ 91 % 2 ^ 18;
  internal = bits / 2 ^ 90 % 2 == 1;
  t = bits / 2 ^ 78 % 4096;
  b = bits / 2 ^ 64 % 16384;
  address = bits % 2 ^ 64;
  user_in_range = mod_below (bits / 2 ^ 124) 16 (lit< tt);
  perms_in_range = mod_below (bits / 2 ^ 112) 4096 (lit< tt);
  reserved_in_range = mod_below (bits / 2 ^ 110) 4 (lit< tt);
  otype_in_range = mod_below (bits / 2 ^ 91) (2 ^ 18) (lit< tt);
  t_in_range = mod_below (bits / 2 ^ 78) 4096 (lit< tt);
  b_in_range = mod_below (bits / 2 ^ 64) 16384 (lit< tt);
}

-- the form in memory, in which null is 0, and back
abbrev pub flipped : ℕ → ℕ
flipped bits = bit_xor bits NULL_BITS

-- the same fields
pub record SameFields (f g : Fields) : Type 0 where
  pub user : f.user ≡ g.user
  pub perms : f.perms ≡ g.perms
  pub reserved : f.reserved ≡ g.reserved
  pub flag : f.flag ≡ g.flag
  pub otype : f.otype ≡ g.otype
  pub internal : f.internal ≡ g.internal
  pub t : f.t ≡ g.t
  pub b : f.b ≡ g.b
  pub address : f.address ≡ g.address

-- fields that agree one by one are equal: each range has one proof at most
pub same_fields : (f g : Fields) → SameFields f g → f ≡ g
same_fields f g s = λ i. record {
  user = s.user i;
  perms = s.perms i;
  reserved = s.reserved i;
  flag = s.flag i;
  otype = s.otype i;
  internal = s.internal i;
  t = s.t i;
  b = s.b i;
  address = s.address i;
  user_in_range = is_prop→PathP (λ j. s.user j < 16) (λ j. le_prop) f.user_in_range g.user_in_range i;
  perms_in_range = is_prop→PathP (λ j. s.perms j < 4096) (λ j. le_prop) f.perms_in_range g.perms_in_range i;
  reserved_in_range = is_prop→PathP (λ j. s.reserved j < 4) (λ j. le_prop) f.reserved_in_range g.reserved_in_range i;
  otype_in_range = is_prop→PathP (λ j. s.otype j < 2 ^ 18) (λ j. le_prop) f.otype_in_range g.otype_in_range i;
  t_in_range = is_prop→PathP (λ j. s.t j < 4096) (λ j. le_prop) f.t_in_range g.t_in_range i;
  b_in_range = is_prop→PathP (λ j. s.b j < 16384) (λ j. le_prop) f.b_in_range g.b_in_range i;
}
