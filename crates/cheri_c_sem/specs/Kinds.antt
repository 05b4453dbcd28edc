-- How the scalars of a program are kept, and what is done with them apart from memory.
use Rattle.std.specs.Prelude.{ℕ, Bool, true, false, pos}
use Rattle.ck_int.specs.declared.kinds.IntKind.{IntKind}
use Rattle.ck_int.specs.declared.kinds.IntKind.TheVariants as int
use Rattle.ck_int.specs.Kinds.{wrapped}
use Rattle.obj_mem.specs.Values.{Value, Int, Live, Fun, Raw}

-- A plain integer of a kind; or a capability, which is a pointer or a capability integer. The truth value of a
-- capability says that its address counts as a signed number, as that of an `__intcap_t` does.
pub data Kind : Type 0 where
  Plain : IntKind → Kind
  Capability : Bool → Kind

abbrev pub pointer : Kind
pointer = Capability false

-- the bytes that a scalar takes in memory (C11 6.2.6.1)
abbrev pub int_bytes : IntKind → ℕ
int_bytes int.Bool = 1
int_bytes int.I8 = 1
int_bytes int.U8 = 1
int_bytes int.I16 = 2
int_bytes int.U16 = 2
int_bytes int.I32 = 4
int_bytes int.U32 = 4
int_bytes int.I64 = 8
int_bytes int.U64 = 8

abbrev pub bytes_of : Kind → ℕ
bytes_of (Plain k) = int_bytes k
bytes_of (Capability signed) = 16

-- the kind of integer that the address of a capability is
abbrev pub address_kind : Bool → IntKind
address_kind true = int.I64
address_kind false = int.U64

abbrev pub int_kind : Kind → IntKind
int_kind (Plain k) = k
int_kind (Capability signed) = address_kind signed

-- the null capability with an address. Null is all zeros in memory (CHERI ISAv9)
abbrev pub null_at : ℕ → Value
null_at address = Raw address 0

-- 0, or null (C11 6.7.9p10)
abbrev pub zero_of : Kind → Value
zero_of (Plain k) = Int 0
zero_of (Capability signed) = null_at 0

-- what is given where there is no value, as by a call of a function that gives none
abbrev pub nothing : Value
nothing = Int 0

-- the 64 bits of a plain integer
abbrev pub number_of : Value → ℕ
number_of (Int n) = n
number_of (Live object low high offset permissions) = 0
number_of (Fun f) = 0
number_of (Raw address upper) = 0

abbrev pub truth : Bool → Value
truth true = Int 1
truth false = Int 0

-- A value as memory gives it, read at a kind: the bytes of a plain integer are extended by its sign, and those of a
-- `_Bool` are reduced to 0 or 1
abbrev pub read_as : Kind → Value → Value
read_as (Plain k) v = Int (wrapped k (pos (number_of v)))
read_as (Capability signed) v = v
