-- The types of C as they are, apart from the list in which their numbers stand, and the rules on types alone (C11
-- 6.2.5, 6.2.7, 6.3).
use Rattle.std.specs.Prelude.{ℕ, ◌+◌, max, Bool, true, false, not, ◌&&◌, ◌||◌, ◌==◌, nat_lt, nat_le, if◌then◌else◌}
use Rattle.std.specs.Prelude.{Option, Some, None}
use Rattle.ck_int.specs.declared.kinds.IntKind.{IntKind}
use Rattle.ck_int.specs.declared.kinds.IntKind.TheVariants as kind
use Rattle.ck_int.specs.Kinds.{form_of, width_of, is_signed}

-- A type. An integer type has a number that tells types of one kind apart. An array of 0 elements is one whose length
-- is not known. A struct or union is known by the number of its tag: its members stand with the tags.
mutual
  pub data Ty : Type 0 where
    Void : Ty
    Int : IntKind → ℕ → Ty
    Cap : Bool → Ty
    Pointer : Ty → Ty
    Array : Ty → ℕ → Ty
    Tagged : ℕ → Ty
    Function : Ty → Tys → Ty
    Const : Ty → Ty

  pub data Tys : Type 0 where
    no_types : Tys
    also : Ty → Tys → Tys

-- ---- the integer types (6.2.5p4 to p6)

abbrev pub bool : Ty
bool = Int kind.Bool 0

-- `char` has no sign; `unsigned char` is another type
abbrev pub char : Ty
char = Int kind.U8 0

abbrev pub signed_char : Ty
signed_char = Int kind.I8 0

abbrev pub unsigned_char : Ty
unsigned_char = Int kind.U8 1

abbrev pub int : Ty
int = Int kind.I32 0

abbrev pub long : Ty
long = Int kind.I64 0

abbrev pub unsigned_long : Ty
unsigned_long = Int kind.U64 0

-- ---- qualified types (6.2.5p26, 6.7.3)

-- The qualifier of an array is that of its elements (6.7.3p9), and a function has none
abbrev pub qualified : Ty → Ty
qualified (Array t n) = Array (qualified t) n
qualified (Const t) = Const t
qualified (Function r ps) = Function r ps
qualified t = Const t

-- the type without a qualifier of its own
abbrev pub bare : Ty → Ty
bare (Const t) = t
bare t = t

-- the type without a qualifier of its own or of its elements
abbrev pub bare_elements : Ty → Ty
bare_elements (Array t n) = Array (bare_elements t) n
bare_elements (Const t) = t
bare_elements t = t

-- whether it is qualified, by itself or in its elements
abbrev pub is_const : Ty → Bool
is_const (Array t n) = is_const t
is_const (Const t) = true
is_const t = false

-- ---- equal and compatible types (6.2.7)

abbrev pub same_kind : IntKind → IntKind → Bool
same_kind kind.Bool kind.Bool = true
same_kind kind.I8 kind.I8 = true
same_kind kind.U8 kind.U8 = true
same_kind kind.I16 kind.I16 = true
same_kind kind.U16 kind.U16 = true
same_kind kind.I32 kind.I32 = true
same_kind kind.U32 kind.U32 = true
same_kind kind.I64 kind.I64 = true
same_kind kind.U64 kind.U64 = true
same_kind j k = false

abbrev pub same_truth : Bool → Bool → Bool
same_truth true b = b
same_truth false b = not b

-- Types that agree up to `lengths`, which judges the lengths of two arrays
abbrev mutual
  pub agree : (ℕ → ℕ → Bool) → Ty → Ty → Bool
  agree lengths Void Void = true
  agree lengths (Int j m) (Int k n) = same_kind j k && m == n
  agree lengths (Cap a) (Cap b) = same_truth a b
  agree lengths (Pointer s) (Pointer t) = agree lengths s t
  agree lengths (Array s m) (Array t n) = agree lengths s t && lengths m n
  agree lengths (Tagged m) (Tagged n) = m == n
  agree lengths (Function r ps) (Function s qs) = agree lengths r s && all_agree lengths ps qs
  agree lengths (Const s) (Const t) = agree lengths s t
  agree lengths s t = false

  pub all_agree : (ℕ → ℕ → Bool) → Tys → Tys → Bool
  all_agree lengths no_types no_types = true
  all_agree lengths (also s ss) (also t ts) = agree lengths s t && all_agree lengths ss ts
  all_agree lengths ss ts = false

abbrev pub same : Ty → Ty → Bool
same s t = agree (λ m n. m == n) s t

-- 6.7.6.2p6: arrays are compatible too where the length of one is not known
abbrev pub compatible : Ty → Ty → Bool
compatible s t = agree (λ m n. m == n || m == 0 || n == 0) s t

-- without regard to the qualifiers of the two types themselves (6.5.15p6, 6.5.16.1p1)
abbrev pub compatible_bare : Ty → Ty → Bool
compatible_bare s t = compatible (bare_elements s) (bare_elements t)

-- 6.2.7p3: the composite of compatible types, in which each length is known that one of them knows
abbrev mutual
  pub composite : Ty → Ty → Ty
  composite (Pointer s) (Pointer t) = Pointer (composite s t)
  composite (Array s m) (Array t n) = Array (composite s t) (max m n)
  composite (Function r ps) (Function s qs) = Function (composite r s) (composites ps qs)
  composite (Const s) (Const t) = Const (composite s t)
  composite s t = s

  pub composites : Tys → Tys → Tys
  composites (also s ss) (also t ts) = also (composite s t) (composites ss ts)
  composites ss ts = ss

-- ---- kinds of types (6.2.5)

abbrev pub is_integer : Ty → Bool
is_integer (Int k n) = true
is_integer (Cap s) = true
is_integer t = false

abbrev pub is_pointer : Ty → Bool
is_pointer (Pointer t) = true
is_pointer t = false

abbrev pub is_scalar : Ty → Bool
is_scalar t = is_integer t || is_pointer t

abbrev pub is_void : Ty → Bool
is_void Void = true
is_void t = false

abbrev pub is_bool : Ty → Bool
is_bool (Int kind.Bool n) = true
is_bool t = false

abbrev pub is_array : Ty → Bool
is_array (Array t n) = true
is_array t = false

abbrev pub is_function : Ty → Bool
is_function (Function r ps) = true
is_function t = false

abbrev pub is_tagged : Ty → Bool
is_tagged (Tagged n) = true
is_tagged t = false

abbrev pub is_capability : Ty → Bool
is_capability (Cap s) = true
is_capability (Pointer t) = true
is_capability t = false

-- what a pointer points to, and what an array has
abbrev pub target_of : Ty → Option Ty
target_of (Pointer t) = Some t
target_of t = None

abbrev pub element_of : Ty → Ty
element_of (Array t n) = t
element_of t = t

-- ---- conversions of integers (6.3.1)

-- 6.3.1.1p1: the rank. That of a capability integer is the greatest
abbrev pub kind_rank : IntKind → ℕ → ℕ
kind_rank kind.Bool n = 0
kind_rank kind.I8 n = 1
kind_rank kind.U8 n = 1
kind_rank kind.I16 n = 2
kind_rank kind.U16 n = 2
kind_rank kind.I32 n = 3
kind_rank kind.U32 n = 3
kind_rank kind.I64 n = 4 + n
kind_rank kind.U64 n = 4 + n

abbrev pub rank : Ty → ℕ
rank (Int k n) = kind_rank k n
rank (Cap s) = 6
rank t = 0

abbrev pub has_sign : Ty → Bool
has_sign (Int k n) = is_signed (form_of k)
has_sign (Cap s) = s
has_sign t = false

abbrev pub width : Ty → ℕ
width (Int k n) = width_of (form_of k)
width (Cap s) = 64
width t = 0

-- 6.3.1.1p2: the integer promotions; each type of a lesser rank than `int` has its values
abbrev pub promoted : Ty → Ty
promoted t = (if nat_lt (rank t) 3 then int else t)

-- the type without a sign that corresponds to one with a sign (6.2.5p6)
abbrev pub without_sign : Ty → Ty
without_sign (Int kind.I32 n) = Int kind.U32 n
without_sign (Int kind.I64 n) = Int kind.U64 n
without_sign (Cap s) = Cap false
without_sign t = t

-- Two promoted types, the first with a sign and the second without one
abbrev pub common_mixed : Ty → Ty → Ty
common_mixed s u = (if nat_le (rank s) (rank u) then u else (if nat_lt (width u) (width s) then s else without_sign s))

abbrev pub common_promoted : Ty → Ty → Ty
common_promoted s t =
    (if same s t then s
    else (if same_truth (has_sign s) (has_sign t) then (if nat_lt (rank s) (rank t) then t else s)
    else (if has_sign s then common_mixed s t else common_mixed t s)))

-- 6.3.1.8: the common type of the usual arithmetic conversions
unfoldable pub common : Ty → Ty → Ty
common s t = common_promoted (promoted s) (promoted t)

-- ---- functions (6.7.6.3)

-- 6.7.6.3p7, p8: a parameter of array or function type is a pointer
abbrev pub adjusted : Ty → Ty
adjusted (Array t n) = Pointer t
adjusted (Function r ps) = Pointer (Function r ps)
adjusted t = t

-- 6.7.6.3p15: the type of a function has its parameters' types without their own qualifiers
abbrev pub in_signature : Ty → Ty
in_signature t = bare (adjusted t)

abbrev pub count : Tys → ℕ
count no_types = 0
count (also t ts) = count ts + 1

-- what a function gives, without qualifiers
abbrev pub given_by : Ty → Ty
given_by (Function r ps) = bare r
given_by t = t
