-- Operations on one pointer or capability integer, in both modes (CHERI C; CHERI ISAv9). In the placed mode addresses
-- are a map's, and what can't keep its tag loses it; the strict mode ends where the number of an address is needed.
use Rattle.std.specs.Prelude.{ℕ, ◌+◌, ◌-◌, ◌*◌, ◌%◌, ◌^◌, ◌==◌, ◌&&◌, ◌||◌, not, nat_lt, nat_le, min, bit_and, Bool}
use Rattle.std.specs.Prelude.{List, Result, Ok, if◌then◌else◌}
use Rattle.cap_concentrate.specs.Decoding.{base_of, top_of, base_at, top_at}
use Rattle.cap_concentrate.specs.Encoding.{encoded_internal, encoded_t, encoded_b}
use Rattle.cap_concentrate.specs.Packing.{fields_of, flipped}
use Rattle.cap_concentrate.specs.Rounding.{alignment, owned, least_base, least_top}
use Rattle.cap_concentrate.specs.declared.fields.Fields.{Fields}
use Rattle.cap_ops.specs.Permissions.{code_permissions}
use Rattle.obj_mem.specs.declared.ending.Fault.{Fault}
use Rattle.obj_mem.specs.declared.ending.Reason.TheVariants as R
use Rattle.obj_mem.specs.Values.{Value, Int, Live, Fun, Raw, Addresses, is_tagged, address_of, untagged, cleared}
use Rattle.obj_mem.specs.Objects.{Shape, Mode, Placed, Strict, base_in}
use Rattle.obj_mem.specs.Access.{unspecified}

-- ---- moves

-- the canonical fields of the bounds from base to top give them at an address
unfoldable pub keeps : (base top address : ℕ) → Bool
keeps base top address =
    base_of (encoded_internal base top) (encoded_t base top) (encoded_b base top) address == base
    && top_of (encoded_internal base top) (encoded_t base top) (encoded_b base top) address == top

-- a pointer with another offset: it keeps its tag exactly where the bounds stay the same at the new address
abbrev pub at_offset : Addresses → (ℕ → ℕ) → (object low high offset permissions : ℕ) → ℕ → Value
at_offset a base object low high offset permissions to =
    if keeps (base object + low) (base object + high) ((base object + to) % 2 ^ 64)
    then Live object low high to permissions
    else untagged a base (Live object low high offset permissions) ((base object + to) % 2 ^ 64)

abbrev pub placed_move : Addresses → (ℕ → ℕ) → Value → ℕ → Value
placed_move a base (Int n) by = Int n
placed_move a base (Raw address upper) by = Raw ((address + by) % 2 ^ 64) upper
placed_move a base (Fun f) by = untagged a base (Fun f) ((a.entry f + by) % 2 ^ 64)
placed_move a base (Live object low high offset permissions) by =
    at_offset a base object low high offset permissions ((offset + by) % 2 ^ 64)

-- less than 1024 bytes below low or above high, modulo 2 ^ 64
abbrev pub is_near : (low high offset : ℕ) → Bool
is_near low high offset = nat_lt ((offset + 2 ^ 64 + 1023 - low) % 2 ^ 64) (high + 2047 - low)

abbrev pub strict_move : Value → ℕ → Result Value Fault
strict_move (Int n) by = Ok (Int n)
strict_move (Raw address upper) by = Ok (Raw ((address + by) % 2 ^ 64) upper)
strict_move (Fun f) by = unspecified R.Address
strict_move (Live object low high offset permissions) by =
    if is_near low high ((offset + by) % 2 ^ 64)
    then Ok (Live object low high ((offset + by) % 2 ^ 64) permissions)
    else unspecified R.Excursion

-- a value moved by bytes, counted modulo 2 ^ 64
abbrev pub move : Mode → List Shape → Value → ℕ → Result Value Fault
move (Placed a) shapes v by = Ok (placed_move a (base_in shapes) v by)
move Strict shapes v by = strict_move v by

-- ---- narrowing

-- the least bounds from b to t of a request, where they lie inside the old ones and, in the exact form, equal the
-- request
abbrev pub narrowed_to : Addresses → (ℕ → ℕ) → (object low high offset permissions : ℕ) → (start length b t : ℕ) →
    Bool → Value
narrowed_to a base object low high offset permissions start length b t exact =
    if nat_le (start + length) (2 ^ 64) && nat_le (base object + low) b && nat_le t (base object + high)
    && (not exact || (b == start && t == start + length))
    then Live object (b - base object) (t - base object) offset permissions
    else cleared a base (Live object low high offset permissions)

abbrev pub placed_narrow : Addresses → (ℕ → ℕ) → Value → ℕ → Bool → Value
placed_narrow a base (Int n) length exact = Int n
placed_narrow a base (Raw address upper) length exact = Raw address upper
placed_narrow a base (Fun f) length exact = cleared a base (Fun f)
placed_narrow a base (Live object low high offset permissions) length exact =
    let start = (base object + offset) % 2 ^ 64 in
    narrowed_to a base object low high offset permissions start length
    (least_base start (start + length)) (least_top start (start + length)) exact

-- Whether the narrowing is exact depends on the address: the offset isn't a multiple of the length's alignment, or the
-- length isn't its own owned length, which lengths up to 4095 are
abbrev pub is_rounding : (offset length : ℕ) → Bool
is_rounding offset length = nat_lt 4095 length && not (offset % alignment length == 0 && owned length == length)

-- Whether the least bounds of the request, taken on offsets, lie inside the pointer's own comes first
abbrev pub strict_narrow : Value → ℕ → Result Value Fault
strict_narrow (Int n) length = Ok (Int n)
strict_narrow (Raw address upper) length = Ok (Raw address upper)
strict_narrow (Fun f) length = unspecified R.Address
strict_narrow (Live object low high offset permissions) length =
    if nat_lt (least_base offset (offset + length)) low || nat_lt high (least_top offset (offset + length))
    then unspecified R.Address
    else if is_rounding offset length then unspecified R.Rounding
    else Ok (Live object offset (offset + length) offset permissions)

-- a value narrowed to a length from its address on; in the strict mode both forms are the same
abbrev pub narrow : Mode → List Shape → Value → ℕ → Bool → Result Value Fault
narrow (Placed a) shapes v length exact = Ok (placed_narrow a (base_in shapes) v length exact)
narrow Strict shapes v length exact = strict_narrow v length

-- ---- permissions and tag

-- a value without its tag
abbrev pub clear : Mode → List Shape → Value → Result Value Fault
clear d shapes (Int n) = Ok (Int n)
clear d shapes (Raw address upper) = Ok (Raw address upper)
clear (Placed a) shapes v = Ok (cleared a (base_in shapes) v)
clear Strict shapes v = unspecified R.Address

-- a value with those of its permissions that a mask has. A sentry loses its tag and keeps its permissions
abbrev pub mask : Mode → List Shape → Value → ℕ → Result Value Fault
mask d shapes (Live object low high offset permissions) bits =
    Ok (Live object low high offset (bit_and permissions bits))
mask d shapes v bits = clear d shapes v

-- ---- addresses

-- the address of a value, as in the conversion to a plain integer
abbrev pub get_address : Mode → List Shape → Value → Result ℕ Fault
get_address (Placed a) shapes v = Ok (address_of a (base_in shapes) v)
get_address Strict shapes (Int n) = Ok n
get_address Strict shapes (Raw address upper) = Ok address
get_address Strict shapes (Live object low high offset permissions) = unspecified R.Address
get_address Strict shapes (Fun f) = unspecified R.Address

abbrev pub placed_at_address : Addresses → (ℕ → ℕ) → Value → ℕ → Value
placed_at_address a base (Int n) to = Int n
placed_at_address a base (Raw address upper) to = Raw to upper
placed_at_address a base (Fun f) to = untagged a base (Fun f) to
placed_at_address a base (Live object low high offset permissions) to =
    at_offset a base object low high offset permissions ((to + 2 ^ 64 - base object) % 2 ^ 64)

-- a value with an address below 2 ^ 64 in place of its own, as in operations on capability integers
abbrev pub set_address : Mode → List Shape → Value → ℕ → Result Value Fault
set_address (Placed a) shapes v to = Ok (placed_at_address a (base_in shapes) v to)
set_address Strict shapes (Int n) to = Ok (Int n)
set_address Strict shapes (Raw address upper) to = Ok (Raw to upper)
set_address Strict shapes (Live object low high offset permissions) to = unspecified R.Address
set_address Strict shapes (Fun f) to = unspecified R.Address

-- ---- what a value grants

abbrev pub raw_fields : (address upper : ℕ) → Fields
raw_fields address upper = fields_of (flipped (upper * 2 ^ 64 + address))

abbrev pub raw_base : (address upper : ℕ) → ℕ
raw_base address upper = base_at (raw_fields address upper) address

abbrev pub raw_top : (address upper : ℕ) → ℕ
raw_top address upper = top_at (raw_fields address upper) address

-- at most 2 ^ 64 - 1, also where the top is below the base
abbrev pub length_between : (base top : ℕ) → ℕ
length_between base top = if nat_lt top base then 2 ^ 64 - 1 else min (top - base) (2 ^ 64 - 1)

abbrev pub get_tag : Value → Bool
get_tag v = is_tagged v

abbrev pub get_permissions : Value → ℕ
get_permissions (Int n) = 0
get_permissions (Live object low high offset permissions) = permissions
get_permissions (Fun f) = code_permissions
get_permissions (Raw address upper) = (raw_fields address upper).perms

-- the base of a pointer needs its object's address
abbrev pub get_base : Mode → List Shape → Value → Result ℕ Fault
get_base d shapes (Int n) = Ok 0
get_base d shapes (Raw address upper) = Ok (raw_base address upper)
get_base (Placed a) shapes (Live object low high offset permissions) = Ok (base_in shapes object + low)
get_base (Placed a) shapes (Fun f) = Ok a.text
get_base Strict shapes (Live object low high offset permissions) = unspecified R.Address
get_base Strict shapes (Fun f) = unspecified R.Address

-- its length doesn't; that of a function is the text's
abbrev pub get_length : Mode → List Shape → Value → Result ℕ Fault
get_length d shapes (Int n) = Ok (2 ^ 64 - 1)
get_length d shapes (Raw address upper) = Ok (length_between (raw_base address upper) (raw_top address upper))
get_length d shapes (Live object low high offset permissions) = Ok (length_between low high)
get_length (Placed a) shapes (Fun f) = Ok (length_between a.text a.text_end)
get_length Strict shapes (Fun f) = unspecified R.Address

-- the address less the base, modulo 2 ^ 64
abbrev pub get_offset : Mode → List Shape → Value → Result ℕ Fault
get_offset d shapes (Int n) = Ok n
get_offset d shapes (Raw address upper) = Ok ((address + 2 ^ 64 - raw_base address upper) % 2 ^ 64)
get_offset d shapes (Live object low high offset permissions) = Ok ((offset + 2 ^ 64 - low) % 2 ^ 64)
get_offset (Placed a) shapes (Fun f) = Ok ((a.entry f + 2 ^ 64 - a.text) % 2 ^ 64)
get_offset Strict shapes (Fun f) = unspecified R.Address
