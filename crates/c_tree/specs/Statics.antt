-- The initial bytes and pointers of objects of static storage duration (C11 6.6p7 to p9, 6.7.9p4), from constants and
-- addresses.
use Rattle.std.specs.Prelude.{ℕ, zero, suc, ◌+◌, ◌-◌, ◌/◌, ◌%◌, ◌^◌, max, ℤ, pos, ◌+ℤ◌, ◌-ℤ◌, ◌*ℤ◌, int_lt, Bool, true}
use Rattle.std.specs.Prelude.{false, ◌&&◌, ◌==◌, nat_lt, nat_le, if◌then◌else◌, List, [], ◌∷◌, ◌++◌, length, fold}
use Rattle.std.specs.Prelude.{Option, Some, None, slice_get}
use Rattle.ck_base.specs.declared.positions.Pos.{Pos}
use Rattle.ck_int.specs.declared.kinds.IntOp.TheVariants.{Add, Sub}
use Rattle.ck_int.specs.Kinds.{value_of, kept_of, twos_complement}
use Rattle.cap_concentrate.specs.Rounding.{owned, least_base, least_top}
use Rattle.c_tree.specs.declared.syntax.RecordKind.{RecordKind}
use Rattle.c_tree.specs.declared.syntax.RecordKind.TheVariants.{Struct, Union}
use Rattle.c_tree.specs.Layout.{fitting}
use Rattle.c_tree.specs.Types.{Ty, Pointer, Tagged, bare, is_capability, is_pointer}
use Rattle.c_tree.specs.Terms.{Shape, Literal, Global, Fun, Load, Decay, Deref, Member, Address, Convert, Capability}
use Rattle.c_tree.specs.Terms.{Plus, Term, term, Terms, no_terms, with_term, type_of, Aim, To_global, To_literal}
use Rattle.c_tree.specs.Terms.{To_function, Text}
use Rattle.c_tree.specs.Scopes.{Reach, All, Within, Aiming, StaticState, TagState, State, Doing, give, look, change}
use Rattle.c_tree.specs.Scopes.{some_or, ◌>>=◌, ◌>>◌, is_complete, size}
use Rattle.c_tree.specs.Constants.{kind_of, constant_of}
use Rattle.c_tree.specs.Readings.{Slot}
use Rattle.c_tree.specs.Initializers.{tag_places}

-- ---- addresses

-- A value that is known before the program runs: a number, which may be an address in null; a place in an object or
-- literal or a pointer there, with its bounds and its offset; or a function
pub data Start : Type 0 where
  Number : ℕ → Start
  There : Aim → Reach → ℤ → Start
  Entry : ℕ → Start

-- what is asked of an object whose length is not known yet
abbrev pub Known : Type 0
Known = Option (Start × List ℤ)

-- the bytes that an object owns, where its type is complete
abbrev pub static_length : State → Option StaticState → Option ℕ
static_length s None = None
static_length s (Some g) = (if is_complete s g.of then Some (owned (size s g.of)) else None)

abbrev pub text_length : Option Text → Option ℕ
text_length None = None
text_length (Some t) = Some (owned (fitting (length t.bytes)))

abbrev pub aim_length : State → Aim → Option ℕ
aim_length s (To_global k) = static_length s (slice_get s.statics k)
aim_length s (To_literal k) = text_length (slice_get s.texts k)
aim_length s (To_function k) = None

-- an address is less than 1024 bytes outside its bounds
abbrev pub is_near : ℕ → ℕ → ℤ → Bool
is_near low length at = int_lt (pos low) (at +ℤ pos 1024) && int_lt at (pos (low + length + 1024))

-- a move to an offset, by the bounds. Where the length is not known, it is asked for: 1023 bytes less than the offset
abbrev pub near_all : Aim → ℤ → Option ℕ → List ℤ → Known
near_all a at (Some n) asks = (if is_near 0 n at then Some (There a All at, asks) else None)
near_all a at None asks =
    (if int_lt (pos 0) (at +ℤ pos 1024) then Some (There a All at, (at -ℤ pos 1023) ∷ asks) else None)

abbrev pub moved_to : State → Aim → Reach → ℤ → List ℤ → Known
moved_to s a All at asks = near_all a at (aim_length s a) asks
moved_to s a (Within low n) at asks = (if is_near low n at then Some (There a (Within low n) at, asks) else None)

-- Narrowing to n bytes: exact, and inside the bounds. An object stands at a multiple of every alignment that its parts
-- need
abbrev pub is_exact : ℕ → ℕ → Bool
is_exact at n = least_base at (at + n) == at && least_top at (at + n) == at + n

abbrev pub inside : Option ℕ → ℕ → ℕ → List ℤ → Aim → Known
inside (Some length) at n asks a =
    (if nat_le (at + n) length then Some (There a (Within at n) (pos at), asks) else None)
inside None at n asks a = Some (There a (Within at n) (pos at), pos (at + n) ∷ asks)

abbrev pub narrowed_in : State → Aim → Reach → ℕ → ℕ → List ℤ → Known
narrowed_in s a All at n asks = inside (aim_length s a) at n asks a
narrowed_in s a (Within low length) at n asks =
    (if nat_le low at && nat_le (at + n) (low + length) then Some (There a (Within at n) (pos at), asks) else None)

abbrev pub narrowed : State → ℕ → Start × List ℤ → Known
narrowed s n (There a r (pos at), asks) = (if is_exact at n then narrowed_in s a r at n asks else None)
narrowed s n x = None

abbrev pub with_known : Known → (Start × List ℤ → Known) → Known
with_known None f = None
with_known (Some x) f = f x

abbrev pub move_by : State → ℤ → Start × List ℤ → Known
move_by s z (There a r at, asks) = moved_to s a r (at +ℤ z) asks
move_by s z x = None

-- a member's offset
abbrev pub offset_in : Option (ℕ × Ty) → Option ℕ
offset_in None = None
offset_in (Some p) = Some p.0

abbrev pub record_offset : State → RecordKind → TagState → ℕ → Option ℕ
record_offset s Struct t k = offset_in (slice_get (tag_places s.tags (Some t)) k)
record_offset s Union t k = Some 0

abbrev pub tag_offset : State → Option TagState → ℕ → Option ℕ
tag_offset s None k = None
tag_offset s (Some t) k = record_offset s t.kind t k

abbrev pub member_offset : State → Ty → ℕ → Option ℕ
member_offset s (Tagged n) k = tag_offset s (slice_get s.tags n) k
member_offset s t k = None

abbrev pub by_offset : State → Option ℕ → Start × List ℤ → Known
by_offset s None x = None
by_offset s (Some n) x = move_by s (pos n) x

abbrev pub is_member_shape : Term → Bool
is_member_shape (term (Member k) xs t p) = true
is_member_shape x = false

-- a place as a pointer: a member is narrowed to
abbrev pub pointed_at : State → Term → Start × List ℤ → Known
pointed_at s x v = (if is_member_shape x then narrowed s (owned (size s (type_of x))) v else Some v)

abbrev pub target_size : State → Ty → ℕ
target_size s (Pointer t) = size s t
target_size s t = 1

abbrev pub signed_by : Bool → ℤ → ℤ
signed_by true z = pos 0 -ℤ z
signed_by false z = z

-- a number that is added to an address or taken from it
abbrev pub number_in : Term → Option ℕ → Option ℤ
number_in x None = None
number_in x (Some v) = Some (value_of (kind_of (bare (type_of x))) v)

-- addresses are moved modulo 2 ^ 64: so many bytes on or back
abbrev pub bytes_moved : Bool → ℕ → ℤ → ℤ
bytes_moved minus n z = twos_complement 64 (kept_of (signed_by minus (z *ℤ pos n)))

abbrev pub by_number : State → Bool → ℕ → Option ℤ → Known → Known
by_number s minus n None k = None
by_number s minus n (Some z) k = with_known k (move_by s (bytes_moved minus n z))

-- The operands with what is known of them
abbrev pub Operand : Type 0
Operand = Term × Known

-- a sum of a pointer and a number
abbrev pub summed : State → Ty → Bool → Operand → Operand → Known
summed s t minus a b =
    (if is_pointer (bare (type_of a.0)) then by_number s minus (target_size s t) (number_in b.0 (constant_of b.0)) a.1
    else by_number s minus (target_size s t) (number_in a.0 (constant_of a.0)) b.1)

-- a sum of capability integers derives from the address, and the other is a constant
abbrev pub derived_sum : State → Bool → Bool → Operand → Operand → Known
derived_sum s minus true a b = (if minus then None else by_number s false 1 (number_in a.0 (constant_of a.0)) b.1)
derived_sum s minus false a b = by_number s minus 1 (number_in b.0 (constant_of b.0)) a.1

-- a cast among pointers and capability integers, or of a number to one
abbrev pub cast_start : Ty → Known → Known
cast_start t k = (if is_capability t then k else None)

abbrev pub shape_start : State → Shape → Ty → List Operand → Known
shape_start s (Literal k) t [] = Some (There (To_literal k) All (pos 0), [])
shape_start s (Global k) t [] = Some (There (To_global k) All (pos 0), [])
shape_start s (Fun k) t [] = Some (Entry k, [])
shape_start s (Member k) t (a ∷ []) = with_known a.1 (by_offset s (member_offset s (bare (type_of a.0)) k))
shape_start s Address t (a ∷ []) = with_known a.1 (pointed_at s a.0)
shape_start s Decay t (a ∷ []) = with_known a.1 (pointed_at s a.0)
shape_start s Deref t (a ∷ []) = a.1
shape_start s (Plus minus) t (a ∷ b ∷ []) = summed s (bare t) minus a b
shape_start s (Capability Add r) t (a ∷ b ∷ []) = derived_sum s false r a b
shape_start s (Capability Sub r) t (a ∷ b ∷ []) = derived_sum s true r a b
shape_start s Convert t (a ∷ []) = cast_start (bare t) a.1
shape_start s n t xs = None

-- a constant first, then an address
abbrev pub or_number : Option ℕ → Known → Known
or_number (Some v) k = Some (Number v, [])
or_number None k = k

abbrev mutual
  pub start_of : State → Term → Known
  start_of s (term n xs t p) = or_number (constant_of (term n xs t p)) (shape_start s n t (starts_of s xs))

  pub starts_of : State → Terms → List Operand
  starts_of s no_terms = []
  starts_of s (with_term x xs) = (x, start_of s x) ∷ starts_of s xs

-- a value is wanted: what is read from a place is none
abbrev pub is_value_start : Term → Bool
is_value_start (term Load xs t p) = false
is_value_start x = true

-- ---- bytes

-- the low bytes of a number, the lowest first
abbrev pub bytes_of : ℕ → ℕ → List ℕ
bytes_of zero v = []
bytes_of (suc n) v = v % 256 ∷ bytes_of n (v / 256)

-- how many bytes of them count: up to the last that is not zero
abbrev pub significant : ℕ → ℕ → ℕ
significant zero v = 0
significant (suc n) v = (if v == 0 then 0 else significant n (v / 256) + 1)

-- A number that is placed, and a pointer that is placed
pub record Placed : Type 0 where
  pub at : ℕ
  pub width : ℕ
  pub number : ℕ

-- the byte at an offset: the number's, where it has one there, else what stood there
abbrev pub byte_in : ℕ → ℕ → Placed → ℕ
byte_in k b x = (if nat_le x.at k && nat_lt k (x.at + x.width) then x.number / 256 ^ (k - x.at) % 256 else b)

abbrev pub end_of : Placed → ℕ
end_of x = (if x.number == 0 then 0 else x.at + significant x.width x.number)

-- 6.7.9p19, p21: the last of the numbers that have a byte there gives it; what none has is zero
abbrev pub byte_at : List Placed → ℕ → ℕ
byte_at xs k = fold (byte_in k) 0 xs

abbrev pub bytes_from : List Placed → ℕ → ℕ → List ℕ
bytes_from xs k zero = []
bytes_from xs k (suc n) = byte_at xs k ∷ bytes_from xs (k + 1) n

-- the bytes end at the last that is not zero or belongs to a pointer
abbrev pub initial_length : List Placed → List Aiming → ℕ
initial_length xs ls = max (fold (λ n x. max n (end_of x)) 0 xs) (fold (λ n (l : Aiming). max n (l.at + 16)) 0 ls)

abbrev pub initial_bytes : List Placed → List Aiming → List ℕ
initial_bytes xs ls = bytes_from xs 0 (initial_length xs ls)

-- ---- an object's initializer

abbrev pub Found : Type 0
Found = List Placed × List Aiming

abbrev pub nothing_found : Found
nothing_found = ([], [])

abbrev pub ask_for : Pos → Aim → List ℤ → Doing Unit
ask_for p (To_global k) (z ∷ zs) =
    change (λ s. record s { pending = s.pending ++ record { place = p; static = k; least = z } ∷ [] })
    >> ask_for p (To_global k) zs
ask_for p a zs = give tt

abbrev pub start_slot : State → Slot → Start × List ℤ → Found → Doing Found
start_slot s x (Number v, asks) f = give (record { at = x.at; width = size s x.of; number = v } ∷ f.0, f.1)
start_slot s x (There a r z, asks) f =
    ask_for x.first a asks >> give (f.0, record { at = x.at; aim = a; reach = r; offset = z } ∷ f.1)
start_slot s x (Entry k, asks) f =
    give (f.0, record { at = x.at; aim = To_function k; reach = All; offset = pos 0 } ∷ f.1)

abbrev pub known_value : State → Term → Known
known_value s x = (if is_value_start x then start_of s x else None)

-- a value that is written is a constant or an address. This is asked of each item before the next one is typed
abbrev pub is_start : Slot → Doing Unit
is_start x = look >>= λ s. some_or (known_value s x.value) 134 x.first >>= λ v. give tt

-- what each value is, once the object's length is known
abbrev pub start_slots : List Slot → Doing Found
start_slots [] = give nothing_found
start_slots (x ∷ xs) =
    look >>= λ s. some_or (known_value s x.value) 134 x.first >>= λ v. start_slots xs >>= λ f. start_slot s x v f
