-- Memory as separate objects, in the placed mode and in the strict one (CHERI C: objects; C11 6.2.4, 6.2.6).
use Rattle.std.specs.Prelude.{ℕ, zero, suc, ◌+◌, ◌*◌, ◌/◌, ◌%◌, ◌==◌, ◌&&◌, max, Bool, true, false, List, [], ◌∷◌, ◌++◌}
use Rattle.std.specs.Prelude.{replicate, Option, Some, None, slice_get, slice_set, if◌then◌else◌}
use Rattle.cap_concentrate.specs.Rounding.{owned}
use Rattle.obj_mem.specs.Values.{Value, Live, Addresses, memory_bits}

-- A byte. In the strict mode it may also be one that was not written, or byte k of a stored pointer, whose number is
-- not known
pub data Cell : Type 0 where
  Byte : ℕ → Cell
  Unwritten : Cell
  PartOf : Value → ℕ → Cell

-- Whether an object may be accessed: it is active; it is a local whose block is not active, as each is before its block
-- is first entered; or it is a local of a function that has returned. Only the strict mode tells when a block is left
pub data Life : Type 0 where
  Active : Life
  Inactive : Life
  Returned : Life

-- What an object is, apart from what stands in it: its length and its owned length in bytes, its life, and in the
-- placed mode its base
pub record Shape : Type 0 where
  pub length : ℕ
  pub owned : ℕ
  pub life : Life
  pub base : ℕ

-- What stands in it: a cell for each owned byte, and for each granule of 16 bytes the tagged value that it holds, or
-- none. The cells of a granule that holds a value are not looked at
pub record Content : Type 0 where
  pub cells : List Cell
  pub values : List (Option Value)

-- The greatest own length of the members that were narrowed to, for an object and bounds in it
pub record Note : Type 0 where
  pub object : ℕ
  pub low : ℕ
  pub high : ℕ
  pub own : ℕ

-- The objects are numbered from 0 in the order in which they were made
pub record Memory : Type 0 where
  pub shapes : List Shape
  pub contents : List Content
  pub notes : List Note

abbrev pub no_objects : Memory
no_objects = record { shapes = []; contents = []; notes = [] }

-- What a run knows of addresses: those of a map, or none
pub data Mode : Type 0 where
  Placed : Addresses → Mode
  Strict : Mode

abbrev pub is_strict : Mode → Bool
is_strict (Placed a) = false
is_strict Strict = true

-- ---- bases

abbrev pub base_of_shape : Option Shape → ℕ
base_of_shape None = 0
base_of_shape (Some s) = s.base

abbrev pub base_in : List Shape → ℕ → ℕ
base_in shapes object = base_of_shape (slice_get shapes object)

-- ---- the bytes of an object

-- byte k of a number, the lowest first
abbrev pub byte_of : ℕ → ℕ → ℕ
byte_of n zero = n % 256
byte_of n (suc k) = byte_of (n / 256) k

-- byte k of a value that a granule holds
abbrev pub part : Mode → List Shape → Value → ℕ → Cell
part (Placed a) shapes v k = Byte (byte_of (memory_bits a (base_in shapes) v) k)
part Strict shapes v k = PartOf v k

abbrev pub held : Option (Option Value) → Option Value
held None = None
held (Some o) = o

-- the value that granule g holds
abbrev pub value_at : Content → ℕ → Option Value
value_at c g = held (slice_get c.values g)

abbrev pub cell_or : Option Cell → Cell
cell_or None = Unwritten
cell_or (Some c) = c

abbrev pub seen_through : Mode → List Shape → Option Value → ℕ → Cell → Cell
seen_through d shapes None k c = c
seen_through d shapes (Some v) k c = part d shapes v k

-- the byte at place i
abbrev pub byte_at : Mode → List Shape → Content → ℕ → Cell
byte_at d shapes c i = seen_through d shapes (value_at c (i / 16)) (i % 16) (cell_or (slice_get c.cells i))

-- n bytes from place i on
abbrev pub bytes_at : Mode → List Shape → Content → ℕ → ℕ → List Cell
bytes_at d shapes c i zero = []
bytes_at d shapes c i (suc n) = byte_at d shapes c i ∷ bytes_at d shapes c (suc i) n

-- ---- changes of an object

-- these cells from place i on
abbrev pub put_at : List Cell → ℕ → List Cell → List Cell
put_at xs i [] = xs
put_at xs i (c ∷ cs) = put_at (slice_set xs i c) (suc i) cs

-- n bytes of a value from byte k on
abbrev pub parts : Mode → List Shape → Value → ℕ → ℕ → List Cell
parts d shapes v k zero = []
parts d shapes v k (suc n) = part d shapes v k ∷ parts d shapes v (suc k) n

-- a value that granule g holds becomes its bytes
abbrev pub opened_by : Mode → List Shape → Content → ℕ → Option Value → Content
opened_by d shapes c g None = c
opened_by d shapes c g (Some v) =
    record { cells = put_at c.cells (16 * g) (parts d shapes v 0 16); values = slice_set c.values g None }

abbrev pub opened : Mode → List Shape → Content → ℕ → Content
opened d shapes c g = opened_by d shapes c g (value_at c g)

-- these bytes from place i on, all in one granule
abbrev pub with_bytes : Mode → List Shape → Content → ℕ → List Cell → Content
with_bytes d shapes c i cs =
    let o = opened d shapes c (i / 16) in record { cells = put_at o.cells i cs; values = o.values }

-- a tagged value in the granule at place i
abbrev pub with_value : Content → ℕ → Value → Content
with_value c i v = record { cells = c.cells; values = slice_set c.values (i / 16) (Some v) }

-- ---- objects that come and go

-- what a fresh byte is
abbrev pub fresh : Mode → Cell
fresh (Placed a) = Byte 0
fresh Strict = Unwritten

-- an object of which nothing is written
abbrev pub blank : Mode → ℕ → Content
blank d owns = record { cells = replicate owns (fresh d); values = replicate ((owns + 15) / 16) None }

-- a new active object of n bytes, at a base in the placed mode. Its number is how many there were
abbrev pub add : Mode → Memory → ℕ → ℕ → Memory
add d m n base = record m {
  shapes = m.shapes ++ record { length = n; owned = owned n; life = Active; base = base } ∷ [];
  contents = m.contents ++ blank d (owned n) ∷ [];
}

abbrev pub with_life_by : Life → List Shape → ℕ → Option Shape → List Shape
with_life_by l shapes k None = shapes
with_life_by l shapes k (Some s) = slice_set shapes k (record s { life = l })

abbrev pub with_life : Life → Memory → ℕ → Memory
with_life l m k = record m { shapes = with_life_by l m.shapes k (slice_get m.shapes k) }

-- its function returns
abbrev pub end : Memory → ℕ → Memory
end m k = with_life Returned m k

-- a local is made at the call of its function, and not active before its block is entered
abbrev pub rest : Memory → ℕ → Memory
rest m k = with_life Inactive m k

-- its block is left, which only the strict mode tells
abbrev pub leave : Mode → Memory → ℕ → Memory
leave (Placed a) m k = m
leave Strict m k = rest m k

abbrev pub owned_of_shape : Option Shape → ℕ
owned_of_shape None = 0
owned_of_shape (Some s) = s.owned

-- its block is entered
abbrev pub zero_object : Mode → Memory → ℕ → Memory
zero_object d m k = record m {
  shapes = with_life_by Active m.shapes k (slice_get m.shapes k);
  contents = slice_set m.contents k (blank d (owned_of_shape (slice_get m.shapes k)));
}

-- ---- pointers to objects

-- the pointer to a whole object
abbrev pub whole_pointer : List Shape → ℕ → ℕ → Value
whole_pointer shapes k permissions = Live k 0 (owned_of_shape (slice_get shapes k)) 0 permissions

-- ---- own lengths of members, which only the strict mode knows

abbrev pub is_note_of : (object low high : ℕ) → Note → Bool
is_note_of object low high r = r.object == object && r.low == low && r.high == high

abbrev pub noted : List Note → (object low high own : ℕ) → List Note
noted [] object low high own = record { object = object; low = low; high = high; own = own } ∷ []
noted (r ∷ rs) object low high own =
    if is_note_of object low high r then record r { own = max r.own own } ∷ rs else r ∷ noted rs object low high own

-- for the object and the bounds of a pointer the greatest length is kept
abbrev pub note_member : Mode → Memory → Value → ℕ → Memory
note_member Strict m (Live object low high offset permissions) own =
    record m { notes = noted m.notes object low high own }
note_member d m v own = m
