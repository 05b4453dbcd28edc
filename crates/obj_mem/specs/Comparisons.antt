-- Operations on two pointers or capability integers, and calls through a value (C11 6.5.6, 6.5.8, 6.5.9, 6.5.2.2; CHERI
-- C).
use Rattle.std.specs.Prelude.{ℕ, ◌+◌, ◌-◌, ◌%◌, ◌^◌, ◌==◌, ◌&&◌, not, nat_lt, Bool, true, false, List, Option, Some}
use Rattle.std.specs.Prelude.{None, Result, Ok, Err, slice_get, if◌then◌else◌}
use Rattle.ck_int.specs.declared.kinds.CmpOp.{CmpOp}
use Rattle.ck_int.specs.declared.kinds.CmpOp.TheVariants.{Lt, Le, Gt, Ge, Eq, Ne}
use Rattle.ck_int.specs.declared.kinds.IntKind.TheVariants as kind
use Rattle.ck_int.specs.declared.kinds.IntOp.TheVariants as op
use Rattle.ck_int.specs.Arithmetic.{binary_of}
use Rattle.cap_ops.specs.declared.access.Cause.TheVariants as C
use Rattle.obj_mem.specs.declared.ending.Fault.{Fault}
use Rattle.obj_mem.specs.declared.ending.Fault.TheVariants as F
use Rattle.obj_mem.specs.declared.ending.Reason.TheVariants as R
use Rattle.obj_mem.specs.Values.{Value, Int, Live, Fun, Raw, is_tagged, bits, address_of, null_with}
use Rattle.obj_mem.specs.Objects.{Life, Active, Inactive, Returned, Shape, Mode, Placed, Strict, base_in}
use Rattle.obj_mem.specs.Access.{trap, unspecified, onward}

-- ---- equality

abbrev pub is_returned : Life → Bool
is_returned Returned = true
is_returned Active = false
is_returned Inactive = false

-- an offset is inside its object's length
abbrev pub is_inside : Option Shape → ℕ → Bool
is_inside None offset = false
is_inside (Some s) offset = nat_lt offset s.length

-- and the object is not a local of a function that has returned
abbrev pub is_distinct : Option Shape → ℕ → Bool
is_distinct None offset = false
is_distinct (Some s) offset = nat_lt offset s.length && not (is_returned s.life)

-- an address that no object and no function has, whatever the map, nor a pointer up to 1023 bytes below an object
abbrev pub is_low : ℕ → Bool
is_low address = nat_lt address 64512

abbrev pub unequal_where : Bool → Result Bool Fault
unequal_where true = Ok false
unequal_where false = unspecified R.Address

-- one object is compared by offsets, also when it has ended
abbrev pub strict_equal : List Shape → Value → Value → Result Bool Fault
strict_equal shapes (Live o low high at p) (Live o' low' high' at' p') =
    if o == o' then Ok (at == at')
    else unequal_where (is_distinct (slice_get shapes o) at && is_distinct (slice_get shapes o') at')
strict_equal shapes (Live o low high at p) (Fun f) = unequal_where (is_inside (slice_get shapes o) at)
strict_equal shapes (Fun f) (Live o low high at p) = unequal_where (is_inside (slice_get shapes o) at)
strict_equal shapes (Fun f) (Fun g) = Ok (f == g)
strict_equal shapes (Live o low high at p) (Raw address upper) = unequal_where (is_low address)
strict_equal shapes (Raw address upper) (Live o low high at p) = unequal_where (is_low address)
strict_equal shapes (Fun f) (Raw address upper) = unequal_where (is_low address)
strict_equal shapes (Raw address upper) (Fun f) = unequal_where (is_low address)
strict_equal shapes (Raw address upper) (Raw address' upper') = Ok (address == address')
strict_equal shapes (Int n) w = unspecified R.Address
strict_equal shapes v (Int n) = unspecified R.Address

-- `==`: addresses are equal
abbrev pub equal : Mode → List Shape → Value → Value → Result Bool Fault
equal (Placed a) shapes v w = Ok (address_of a (base_in shapes) v == address_of a (base_in shapes) w)
equal Strict shapes v w = strict_equal shapes v w

abbrev pub negated : Result Bool Fault → Result Bool Fault
negated r = onward r (λ b. Ok (not b))

-- as a condition and as a `_Bool`: unequal to null
abbrev pub is_true : Mode → List Shape → Value → Result Bool Fault
is_true d shapes v = negated (equal d shapes v (null_with 0))

-- ---- order

-- so that the order of 64 bits read as two's complement is that of numbers
abbrev pub shifted : ℕ → ℕ
shifted n = (n + 2 ^ 63) % 2 ^ 64

-- as signed numbers, or as unsigned ones
abbrev pub less_word : Bool → ℕ → ℕ → Bool
less_word true x y = nat_lt (shifted x) (shifted y)
less_word false x y = nat_lt x y

-- pointers into one object have the order of their offsets, in which a place before the base comes first
abbrev pub strict_less : Bool → Value → Value → Result Bool Fault
strict_less signed (Live o low high at p) (Live o' low' high' at' p') =
    if o == o' then Ok (less_word true at at') else unspecified R.Address
strict_less signed (Fun f) (Fun g) = if f == g then Ok false else unspecified R.Address
strict_less signed (Raw address upper) (Raw address' upper') = Ok (less_word signed address address')
strict_less signed v w = unspecified R.Address

-- `<`: addresses are compared, as signed numbers where the common type is `__intcap_t`
abbrev pub less : Mode → List Shape → Bool → Value → Value → Result Bool Fault
less (Placed a) shapes signed v w =
    Ok (less_word signed (address_of a (base_in shapes) v) (address_of a (base_in shapes) w))
less Strict shapes signed v w = strict_less signed v w

abbrev pub compare : Mode → List Shape → Bool → CmpOp → Value → Value → Result Bool Fault
compare d shapes signed Lt v w = less d shapes signed v w
compare d shapes signed Le v w = negated (less d shapes signed w v)
compare d shapes signed Gt v w = less d shapes signed w v
compare d shapes signed Ge v w = negated (less d shapes signed v w)
compare d shapes signed Eq v w = equal d shapes v w
compare d shapes signed Ne v w = negated (equal d shapes v w)

-- ---- difference

abbrev pub less_by : ℕ → ℕ → ℕ
less_by x y = (x + 2 ^ 64 - y) % 2 ^ 64

abbrev pub strict_distance : Value → Value → Result ℕ Fault
strict_distance (Live o low high at p) (Live o' low' high' at' p') =
    if o == o' then Ok (less_by at at') else unspecified R.Address
strict_distance (Fun f) (Fun g) = if f == g then Ok 0 else unspecified R.Address
strict_distance (Raw address upper) (Raw address' upper') = Ok (less_by address address')
strict_distance v w = unspecified R.Address

-- from the second to the first, in bytes
abbrev pub distance : Mode → List Shape → Value → Value → Result ℕ Fault
distance (Placed a) shapes v w = Ok (less_by (address_of a (base_in shapes) v) (address_of a (base_in shapes) w))
distance Strict shapes v w = strict_distance v w

-- in elements of a size, toward zero, as a kept `long`
abbrev pub difference : Mode → List Shape → ℕ → Value → Value → Result ℕ Fault
difference d shapes size v w = onward (distance d shapes v w) (λ n. Ok (binary_of op.Div kind.I64 n size))

-- ---- equality of the tag and of all bits

abbrev pub same_tag : Bool → Bool → Bool
same_tag true t = t
same_tag false t = not t

abbrev pub strict_identical : List Shape → Value → Value → Result Bool Fault
strict_identical shapes (Live o low high at p) (Live o' low' high' at' p') =
    if o == o' then Ok (low == low' && high == high' && at == at' && p == p')
    else strict_equal shapes (Live o low high at p) (Live o' low' high' at' p')
strict_identical shapes (Live o low high at p) (Fun f) = strict_equal shapes (Live o low high at p) (Fun f)
strict_identical shapes (Fun f) (Live o low high at p) = strict_equal shapes (Fun f) (Live o low high at p)
strict_identical shapes (Fun f) (Fun g) = Ok (f == g)
strict_identical shapes (Raw address upper) (Raw address' upper') = Ok (address == address' && upper == upper')
strict_identical shapes (Int n) w = unspecified R.Address
strict_identical shapes v (Int n) = unspecified R.Address
strict_identical shapes v w = Ok false

abbrev pub identical : Mode → List Shape → Value → Value → Result Bool Fault
identical (Placed a) shapes v w =
    Ok (same_tag (is_tagged v) (is_tagged w) && bits a (base_in shapes) v == bits a (base_in shapes) w)
identical Strict shapes v w = strict_identical shapes v w

-- ---- calls

-- the function that a call through a value enters, or the jump's cause
abbrev pub callee : Value → Result ℕ Fault
callee (Fun f) = Ok f
callee (Live object low high offset permissions) = trap C.Execute
callee (Raw address upper) = trap C.Tag
callee (Int n) = trap C.Tag

-- a function of another type is outside the meaning
abbrev pub call_target : (ℕ → Bool) → Value → Result ℕ Fault
call_target is_compatible v = onward (callee v) (λ f. if is_compatible f then Ok f else Err F.Outside)
