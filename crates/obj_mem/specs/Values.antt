-- Values, and the capabilities that they are where objects, text and functions have addresses (CHERI C: objects,
-- provenance and tags).
use Rattle.std.specs.Prelude.{ℕ, ◌+◌, ◌*◌, ◌/◌, ◌%◌, ◌^◌, Bool, true, false}
use Rattle.ck_int.specs.Kinds.{kept_of, twos_complement}
use Rattle.cap_concentrate.specs.Packing.{bits_of, fields_of, flipped}
use Rattle.cap_ops.specs.declared.capability.Cap.{Cap}
use Rattle.cap_ops.specs.declared.capability.TheConstants.{UNSEALED, SENTRY}
use Rattle.cap_ops.specs.Capability.{null_at}
use Rattle.cap_ops.specs.Bounded.{bounded}
use Rattle.cap_ops.specs.Permissions.{code_permissions}
use Rattle.obj_mem.specs.declared.value.Value as public
use Rattle.obj_mem.specs.declared.value.Value.TheVariants as given

-- An integer; a tagged capability of an object, with its bounds, its address and its permissions; the sentry of a
-- function; or a capability without a tag, by its address and its upper 64 bits as they stand in memory. Bounds and
-- address are counted in bytes from the object's base, the address modulo 2 ^ 64: a place before the base has an offset
-- near 2 ^ 64, and a move is a sum modulo 2 ^ 64.
pub data Value : Type 0 where
  Int : ℕ → Value
  Live : (object low high offset permissions : ℕ) → Value
  Fun : ℕ → Value
  Raw : (address upper : ℕ) → Value

-- The value that callers see has a signed offset: this one is its two's complement of 64 bits
abbrev pub value_of : public.Value → Value
value_of (given.Int n) = Int n
value_of (given.Live object low high offset permissions) = Live object low high (kept_of offset) permissions
value_of (given.Fun f) = Fun f
value_of (given.Raw address upper) = Raw address upper

-- and back, for offsets below 2 ^ 64
abbrev pub seen_of : Value → public.Value
seen_of (Int n) = given.Int n
seen_of (Live object low high offset permissions) = given.Live object low high (twos_complement 64 offset) permissions
seen_of (Fun f) = given.Fun f
seen_of (Raw address upper) = given.Raw address upper

-- only these two have a tag
abbrev pub is_tagged : Value → Bool
is_tagged (Int n) = false
is_tagged (Live object low high offset permissions) = true
is_tagged (Fun f) = true
is_tagged (Raw address upper) = false

-- A plain integer as a pointer or capability integer: null with that address
abbrev pub null_with : ℕ → Value
null_with address = Raw address 0

-- ---- with addresses

-- what a map says of addresses, apart from those of objects
pub record Addresses : Type 0 where
  pub text : ℕ
  pub text_end : ℕ
  -- of each function
  pub entry : ℕ → ℕ
  pub heap : ℕ
  pub heap_end : ℕ

-- The capability that a value is. `base` gives each object's base; the bounds are encoded in their canonical form
unfoldable pub capability_of : Addresses → (ℕ → ℕ) → Value → Cap
capability_of a base (Int n) = null_at n
capability_of a base (Live object low high offset permissions) =
    bounded (base object + low) (base object + high) permissions UNSEALED ((base object + offset) % 2 ^ 64)
capability_of a base (Fun f) = bounded a.text a.text_end code_permissions SENTRY (a.entry f)
capability_of a base (Raw address upper) =
    record { tag = false; fields = fields_of (flipped (upper * 2 ^ 64 + address)) }

-- its 128 bits, and these bits as they stand in memory
unfoldable pub bits : Addresses → (ℕ → ℕ) → Value → ℕ
bits a base v = bits_of (capability_of a base v).fields

abbrev pub memory_bits : Addresses → (ℕ → ℕ) → Value → ℕ
memory_bits a base v = flipped (bits a base v)

-- its address
abbrev pub address_of : Addresses → (ℕ → ℕ) → Value → ℕ
address_of a base (Int n) = n
address_of a base (Live object low high offset permissions) = (base object + offset) % 2 ^ 64
address_of a base (Fun f) = a.entry f
address_of a base (Raw address upper) = address

-- what clearing the tag leaves, at an address: the upper bits stay
abbrev pub untagged : Addresses → (ℕ → ℕ) → Value → ℕ → Value
untagged a base (Raw address upper) to = Raw to upper
untagged a base v to = Raw to (memory_bits a base v / 2 ^ 64)

abbrev pub cleared : Addresses → (ℕ → ℕ) → Value → Value
cleared a base v = untagged a base v (address_of a base v)
