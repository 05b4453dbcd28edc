-- Loads, stores and copies through a value (CHERI ISAv9, capability checks; CHERI C). What fails comes in this order: a
-- cause of the access, which looks at no memory; an object that is not active; and in the strict mode a byte of
-- padding, one that was not written, and one of a stored pointer.
use Rattle.std.specs.Prelude.{ℕ, zero, suc, ◌+◌, ◌*◌, ◌/◌, ◌%◌, ◌==◌, ◌&&◌, ◌||◌, not, nat_lt, Bool, true, false, List}
use Rattle.std.specs.Prelude.{[], ◌∷◌, ◌++◌, take, drop, find, Option, Some, None, Result, Ok, Err, slice_get}
use Rattle.std.specs.Prelude.{slice_set, if◌then◌else◌}
use Rattle.cap_ops.specs.declared.access.Access.{Access}
use Rattle.cap_ops.specs.declared.access.Access.TheVariants as A
use Rattle.cap_ops.specs.declared.access.Cause.{Cause}
use Rattle.cap_ops.specs.declared.access.Cause.TheVariants as C
use Rattle.cap_ops.specs.declared.capability.TheConstants.{EXECUTE, LOAD, STORE, LOAD_CAPABILITY, STORE_CAPABILITY}
use Rattle.cap_ops.specs.Access.{size, loads, stores, stores_tagged, jumps, in_order}
use Rattle.cap_ops.specs.Capability.{lacks, permits}
use Rattle.obj_mem.specs.declared.ending.Reason.{Reason}
use Rattle.obj_mem.specs.declared.ending.Reason.TheVariants as R
use Rattle.obj_mem.specs.declared.ending.Fault.{Fault}
use Rattle.obj_mem.specs.declared.ending.Fault.TheVariants as F
use Rattle.obj_mem.specs.declared.ending.UnitFault.{UnitFault}
use Rattle.obj_mem.specs.declared.ending.UnitFault.TheVariants as U
use Rattle.obj_mem.specs.Values.{Value, Int, Live, Fun, Raw}
use Rattle.obj_mem.specs.Objects.{Cell, Byte, Unwritten, PartOf, Life, Active, Inactive, Returned, Shape, Content, Note}
use Rattle.obj_mem.specs.Objects.{Memory, Mode, is_strict, value_at, bytes_at, with_bytes, with_value, is_note_of}

-- ---- answers

abbrev pub trap : {A : Type 0} → Cause → Result A Fault
trap c = Err (F.Cause c)

abbrev pub unspecified : {A : Type 0} → Reason → Result A Fault
unspecified r = Err (F.Unspecified r)

abbrev pub onward : {A B : Type 0} → Result A Fault → (A → Result B Fault) → Result B Fault
onward (Ok x) f = f x
onward (Err e) f = Err e

-- ---- what an access reaches

-- a place in an object, the bounds through which it is reached, and whether tags are loaded through them
pub record Spot : Type 0 where
  pub object : ℕ
  pub low : ℕ
  pub high : ℕ
  pub at : ℕ
  pub carries : Bool

-- whether an access through a pointer fails by a cause. Offsets before the base exceed each upper bound
abbrev pub misses : (low high offset permissions : ℕ) → Access → Cause → Bool
misses low high offset permissions a C.Tag = false
misses low high offset permissions a C.Sealed = false
misses low high offset permissions a C.Load = loads a && lacks permissions LOAD
misses low high offset permissions a C.Store = stores a && lacks permissions STORE
misses low high offset permissions a C.StoreCap = stores_tagged a && lacks permissions STORE_CAPABILITY
misses low high offset permissions a C.Execute = jumps a && lacks permissions EXECUTE
misses low high offset permissions a C.Bounds = nat_lt offset low || nat_lt high (offset + size a)
misses low high offset permissions a C.Align = not (offset % size a == 0)

abbrev pub unless : {A : Type 0} → Option Cause → Result A Fault → Result A Fault
unless (Some c) r = trap c
unless None r = r

-- the place, or the first cause by which the access fails
abbrev pub reach : Access → Value → Result Spot Fault
reach a (Int n) = trap C.Tag
reach a (Raw address upper) = trap C.Tag
reach a (Fun f) = trap C.Sealed
reach a (Live object low high offset permissions) =
    unless (find (misses low high offset permissions a) in_order)
    (Ok (record {
      object = object;
      low = low;
      high = high;
      at = offset;
      carries = permits permissions LOAD_CAPABILITY;
    }))

abbrev pub outside_unless_active : {A : Type 0} → Life → Result A Fault → Result A Fault
outside_unless_active Active r = r
outside_unless_active Inactive r = Err F.Outside
outside_unless_active Returned r = Err F.Outside

-- n bytes take one at or past the member's own length, where one is noted for the bounds
abbrev pub past_member : Option Note → Spot → ℕ → Bool
past_member None s n = false
past_member (Some r) s n = nat_lt (r.low + r.own) (s.at + n)

-- or at or past the object's length
abbrev pub takes_padding : List Note → Shape → Spot → ℕ → Bool
takes_padding notes o s n =
    nat_lt o.length (s.at + n) || past_member (find (is_note_of s.object s.low s.high) notes) s n

abbrev pub padding_where : {A : Type 0} → Bool → Result A Fault → Result A Fault
padding_where true r = unspecified R.Padding
padding_where false r = r

abbrev pub at_place : {A : Type 0} → Mode → Memory → Spot → ℕ → Option Shape → Option Content →
    (Content → Result A Fault) → Result A Fault
at_place d m s n (Some o) (Some c) f =
    outside_unless_active o.life (padding_where (is_strict d && takes_padding m.notes o s n) (f c))
at_place d m s n (Some o) None f = Err F.Outside
at_place d m s n None c f = Err F.Outside

-- what an access of n bytes does with the object that it reaches
abbrev pub at_spot : {A : Type 0} → Mode → Memory → Spot → ℕ → (Content → Result A Fault) → Result A Fault
at_spot d m s n f = at_place d m s n (slice_get m.shapes s.object) (slice_get m.contents s.object) f

-- ---- units: a tagged value, or bytes

pub data Piece : Type 0 where
  Tagged : Value → Piece
  Plain : List Cell → Piece

-- 16 bytes are loaded as a capability, fewer as an integer
abbrev pub load_access : ℕ → Access
load_access n = if n == 16 then A.LoadCap else A.Load n

abbrev pub store_access : ℕ → Piece → Access
store_access n (Tagged v) = if n == 16 then A.StoreCap true else A.Store n
store_access n (Plain cs) = if n == 16 then A.StoreCap false else A.Store n

-- A tag is loaded with 16 bytes through Load_Capability, and with fewer bytes or without this permission never
abbrev pub piece_of : Mode → Memory → Content → Spot → ℕ → Option Value → Piece
piece_of d m c s n (Some v) = if s.carries && n == 16 then Tagged v else Plain (bytes_at d m.shapes c s.at n)
piece_of d m c s n None = Plain (bytes_at d m.shapes c s.at n)

abbrev pub fetch : Mode → Memory → Value → ℕ → Result Piece Fault
fetch d m p n = onward (reach (load_access n) p)
    (λ s. at_spot d m s n (λ c. Ok (piece_of d m c s n (value_at c (s.at / 16)))))

abbrev pub with_piece : Mode → List Shape → Content → ℕ → Piece → Content
with_piece d shapes c i (Tagged v) = with_value c i v
with_piece d shapes c i (Plain cs) = with_bytes d shapes c i cs

abbrev pub put : Mode → Memory → Value → ℕ → Piece → Result Memory Fault
put d m p n u =
    onward (reach (store_access n u) p)
    (λ s. at_spot d m s n (λ c. Ok (record m {
      contents = slice_set m.contents s.object
          (with_piece d m.shapes c s.at u);
    })))

-- ---- load

abbrev pub has_unwritten : List Cell → Bool
has_unwritten [] = false
has_unwritten (Unwritten ∷ cs) = true
has_unwritten (Byte b ∷ cs) = has_unwritten cs
has_unwritten (PartOf v k ∷ cs) = has_unwritten cs

abbrev pub has_part : List Cell → Bool
has_part [] = false
has_part (PartOf v k ∷ cs) = true
has_part (Byte b ∷ cs) = has_part cs
has_part (Unwritten ∷ cs) = has_part cs

-- the number that bytes are, the lowest first
abbrev pub number_of : List Cell → ℕ
number_of [] = 0
number_of (Byte b ∷ cs) = b + 256 * number_of cs
number_of (Unwritten ∷ cs) = 256 * number_of cs
number_of (PartOf v k ∷ cs) = 256 * number_of cs

-- n bytes as a value
abbrev pub read_as : ℕ → List Cell → Value
read_as n cs = if n == 16 then Raw (number_of (take 8 cs)) (number_of (drop 8 cs)) else Int (number_of cs)

abbrev pub known : {A : Type 0} → Bool → Reason → Result A Fault → Result A Fault
known true r x = unspecified r
known false r x = x

abbrev pub loaded : ℕ → Piece → Result Value Fault
loaded n (Tagged v) = Ok v
loaded n (Plain cs) = known (has_unwritten cs) R.Unwritten (known (has_part cs) R.Address (Ok (read_as n cs)))

-- the n bytes at a pointer, n being 1, 2, 4, 8 or 16
unfoldable pub load : Mode → Memory → Value → ℕ → Result Value Fault
load d m p n = onward (fetch d m p n) (loaded n)

-- ---- store

-- the n low bytes of a number
abbrev pub bytes_of : ℕ → ℕ → List Cell
bytes_of zero x = []
bytes_of (suc n) x = Byte (x % 256) ∷ bytes_of n (x / 256)

abbrev pub stored_piece : ℕ → Value → Piece
stored_piece n (Int x) = Plain (bytes_of n x)
stored_piece n (Raw address upper) = Plain (bytes_of 8 address ++ bytes_of 8 upper)
stored_piece n (Fun f) = Tagged (Fun f)
stored_piece n (Live object low high offset permissions) = Tagged (Live object low high offset permissions)

unfoldable pub store : Mode → Memory → Value → ℕ → Value → Result Memory Fault
store d m p n v = put d m p n (stored_piece n v)

-- ---- one unit of a struct copy: as a load and then a store, but bytes that were not written are carried on

abbrev pub carried : Piece → Result Piece Fault
carried (Tagged v) = Ok (Tagged v)
carried (Plain cs) = known (has_part cs) R.Address (Ok (Plain cs))

abbrev pub as_load : {A : Type 0} → Result A Fault → Result A UnitFault
as_load (Ok x) = Ok x
as_load (Err e) = Err (U.Load e)

abbrev pub as_store : {A : Type 0} → Result A Fault → Result A UnitFault
as_store (Ok x) = Ok x
as_store (Err e) = Err (U.Store e)

abbrev pub then_put : Mode → Memory → Value → ℕ → Result Piece UnitFault → Result Memory UnitFault
then_put d m to n (Ok u) = as_store (put d m to n u)
then_put d m to n (Err e) = Err e

unfoldable pub copy_unit : Mode → Memory → Value → Value → ℕ → Result Memory UnitFault
copy_unit d m from to n = then_put d m to n (as_load (onward (fetch d m from n) carried))
