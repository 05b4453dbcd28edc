-- Capabilities with their tag, and the operations on them as functions (CHERI ISAv9). Which operations clear the tag,
-- and where, is this project's profile: none of them traps.
use Rattle.std.specs.Prelude.{ℕ, ◌≡◌, ◌+◌, ◌/◌, ◌%◌, ◌^◌, ◌<◌, ◌≤◌, ◌==◌, ◌&&◌, nat_le, Bool, false, not, IsTrue}
use Rattle.std.specs.Prelude.{if◌then◌else◌, bit_and}
use Rattle.std.proofs.Common.{lit<, arith}
use Rattle.std.proofs.lemmas.Nat.{and_le_l, mod_below}
use Rattle.cap_concentrate.specs.declared.packing.TheConstants.{NULL_BITS}
use Rattle.cap_concentrate.specs.declared.fields.Fields.{Fields}
use Rattle.cap_concentrate.specs.Decoding.{base_at, top_at, same_bounds}
use Rattle.cap_concentrate.specs.Encoding.{with_bounds}
use Rattle.cap_concentrate.specs.Packing.{fields_of}
use Rattle.cap_concentrate.specs.Rounding.{least_base, least_top}
use Rattle.cap_ops.specs.declared.capability.TheConstants.{UNSEALED, SENTRY, EXECUTE}
use Rattle.cap_ops.specs.declared.capability.Cap.{Cap}

-- ---- fields with one part changed

-- another address
abbrev pub with_address : Fields → ℕ → Fields
with_address f address = record f { address = address }

-- the permissions that a mask has too
pub masked_below : (f : Fields) (mask : ℕ) → bit_and f.perms mask < 4096
masked_below f mask = let h = f.perms_in_range in omega (arith, and_le_l f.perms mask)

unfoldable pub with_mask : Fields → ℕ → Fields
with_mask f mask = record f { perms = bit_and f.perms mask; perms_in_range = masked_below f mask }

-- another object type, of 18 bits
unfoldable pub with_otype : Fields → ℕ → Fields
with_otype f otype = record f { otype = otype % 2 ^ 18; otype_in_range = mod_below otype (2 ^ 18) (lit< tt) }

-- ---- what a capability grants

-- its bounds
abbrev pub base : Cap → ℕ
base c = base_at c.fields c.fields.address

abbrev pub top : Cap → ℕ
top c = top_at c.fields c.fields.address

-- it is tagged, and not sealed
abbrev pub usable : Cap → Bool
usable c = c.tag && c.fields.otype == UNSEALED

-- whether permissions have this bit, or not
abbrev pub permits : ℕ → ℕ → Bool
permits perms bit = perms / 2 ^ bit % 2 == 1

abbrev pub lacks : ℕ → ℕ → Bool
lacks perms bit = not (permits perms bit)

-- ---- the operations

-- null with this address
unfoldable pub null_at : ℕ → Cap
null_at address = record { tag = false; fields = with_address (fields_of NULL_BITS) address }

-- the same capability without its tag
abbrev pub cleared : Cap → Cap
cleared c = record c { tag = false }

-- the capability with this address: the tag stays exactly where the capability is usable and its base and top stay
unfoldable pub moved : Cap → ℕ → Cap
moved c address = record { tag = usable c && same_bounds c.fields address; fields = with_address c.fields address }

-- the capability with its address moved by a number of bytes, modulo 2 ^ 64
abbrev pub added : Cap → ℕ → Cap
added c by = moved c ((c.fields.address + by) % 2 ^ 64)

-- the least bounds of a request: the `length` bytes from the address on
abbrev pub request_base : Cap → ℕ → ℕ
request_base c length = least_base c.fields.address (c.fields.address + length)

abbrev pub request_top : Cap → ℕ → ℕ
request_top c length = least_top c.fields.address (c.fields.address + length)

-- whether they lie inside the capability's own
unfoldable pub fits : Cap → ℕ → Bool
fits c length =
    nat_le (c.fields.address + length) (2 ^ 64) && nat_le (base c) (request_base c length)
    && nat_le (request_top c length) (top c)

-- whether they are the request itself, so that nothing has to be rounded
unfoldable pub is_exact : Cap → ℕ → Bool
is_exact c length = request_base c length == c.fields.address && request_top c length == c.fields.address + length

-- the capability with them in place of its own
unfoldable pub with_request : Cap → ℕ → Cap
with_request c length = record c { fields = with_bounds c.fields (request_base c length) (request_top c length) }

-- narrowing to a length: exactly where the capability is usable and the least bounds lie inside its own
unfoldable pub narrowed : Cap → ℕ → Cap
narrowed c length = (if usable c && fits c length then with_request c length else cleared c)

-- and exactly where, moreover, nothing has to be rounded
unfoldable pub narrowed_exactly : Cap → ℕ → Cap
narrowed_exactly c length =
    (if usable c && fits c length && is_exact c length then with_request c length else cleared c)

-- masking the permissions: exactly where the capability is usable
unfoldable pub masked : Cap → ℕ → Cap
masked c mask = (if usable c then record c { fields = with_mask c.fields mask } else cleared c)

-- sealing as an entry: exactly where the capability is usable and has Execute
unfoldable pub sealed : Cap → Cap
sealed c =
    (if usable c && permits c.fields.perms EXECUTE then record c { fields = with_otype c.fields SENTRY } else cleared c)

-- ---- no operation widens

-- a tagged result comes from a tagged operand and has its bounds inside the operand's; and no result has a permission
-- that the operand lacks
pub record IsInside (c r : Cap) : Type 0 where
  pub tagged : IsTrue r.tag → IsTrue c.tag
  pub low : IsTrue r.tag → base c ≤ base r
  pub high : IsTrue r.tag → top r ≤ top c
  pub perms : bit_and r.fields.perms c.fields.perms ≡ r.fields.perms
