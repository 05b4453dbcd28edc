-- What the meaning asks of the types of a program.
use Rattle.std.specs.Prelude.{ℕ, zero, suc, ◌+◌, min, ◌&&◌, not, Bool, true, false, List, [], ◌∷◌, Option, Some, None}
use Rattle.std.specs.Prelude.{slice_index_or, if◌then◌else◌}
use Rattle.ck_int.specs.declared.kinds.IntKind.{IntKind}
use Rattle.ck_int.specs.declared.kinds.IntKind.TheVariants as int
use Rattle.ck_int.specs.declared.kinds.IntOp.{IntOp}
use Rattle.ck_int.specs.declared.kinds.IntOp.TheVariants.{Add, Sub, Shl, Shr}
use Rattle.cap_concentrate.specs.Rounding.{owned}
use Rattle.c_tree.specs.Layout.{Extent, extent, member_at}
use Rattle.c_tree.specs.declared.typed.CType.{CType}
use Rattle.c_tree.specs.declared.typed.CType.TheVariants as types
use Rattle.c_tree.specs.declared.typed.VarDef.{VarDef}
use Rattle.cheri_c_sem.specs.Kinds.{Kind, Plain, Capability}
use Rattle.cheri_c_sem.specs.Tree.{Operation, Derived, Narrowing, Service, Put_char, Get_char, Malloc, Exit, Address}
use Rattle.cheri_c_sem.specs.Tree.{Bounds, Works}
use Rattle.cheri_c_sem.specs.Operations as work

-- ---- layout, of types by their numbers. A type that is not complete has none; no object of a program whose types fit
-- has one

abbrev pub size_of_extent : Option Extent → ℕ
size_of_extent None = 0
size_of_extent (Some x) = x.size

abbrev pub align_of_extent : Option Extent → ℕ
align_of_extent None = 1
align_of_extent (Some x) = x.align

abbrev pub size_in : List CType → ℕ → ℕ
size_in all t = size_of_extent (extent all t)

abbrev pub align_in : List CType → ℕ → ℕ
align_in all t = align_of_extent (extent all t)

abbrev pub offset_or_zero : Option ℕ → ℕ
offset_or_zero None = 0
offset_or_zero (Some n) = n

-- where a member of a struct or union begins
abbrev pub offset_in : List CType → ℕ → ℕ → ℕ
offset_in all t member = offset_or_zero (member_at all t member)

-- ---- kinds of types

abbrev pub scalar_of : Option CType → Option Kind
scalar_of (Some (types.Int k n)) = Some (Plain k)
scalar_of (Some (types.Cap signed)) = Some (Capability signed)
scalar_of (Some (types.Pointer t)) = Some (Capability false)
scalar_of t = None

abbrev pub kind_or_int : Option Kind → Kind
kind_or_int None = Plain int.I32
kind_or_int (Some k) = k

abbrev pub kind_of : Option CType → Kind
kind_of t = kind_or_int (scalar_of t)

abbrev pub is_record : Option CType → Bool
is_record (Some (types.Struct tag members)) = true
is_record (Some (types.Union tag members)) = true
is_record t = false

abbrev pub is_signed_capability : Option CType → Bool
is_signed_capability (Some (types.Cap signed)) = signed
is_signed_capability t = false

abbrev pub is_void : Option CType → Bool
is_void (Some types.Void) = true
is_void t = false

abbrev pub is_plain : Option CType → Bool
is_plain (Some (types.Int k n)) = true
is_plain t = false

abbrev pub is_pointer : Option CType → Bool
is_pointer (Some (types.Pointer t)) = true
is_pointer t = false

-- the number of the type to which a pointer points
abbrev pub pointee_of : Option CType → ℕ
pointee_of (Some (types.Pointer t)) = t
pointee_of t = 0

-- what a function gives
abbrev pub result_type_of : Option CType → ℕ
result_type_of (Some (types.Function t parameters)) = t
result_type_of t = 0

-- a struct is copied in units of at most 16 bytes, and at most its alignment
abbrev pub unit_of : ℕ → ℕ
unit_of align = min 16 align

abbrev pub narrowing_to : ℕ → Narrowing
narrowing_to n = record { own = n; owned = owned n }

-- the integer promotions (C11 6.3.1.1p2)
abbrev pub promoted : IntKind → IntKind
promoted int.Bool = int.I32
promoted int.I8 = int.I32
promoted int.U8 = int.I32
promoted int.I16 = int.I32
promoted int.U16 = int.I32
promoted int.I32 = int.I32
promoted int.U32 = int.U32
promoted int.I64 = int.I64
promoted int.U64 = int.U64

-- ---- operations by their type

abbrev pub is_shift : IntOp → Bool
is_shift Shl = true
is_shift Shr = true
is_shift op = false

abbrev pub takes_away : IntOp → Bool
takes_away Sub = true
takes_away op = false

abbrev pub adds_or_takes : Bool → IntOp
adds_or_takes true = Add
adds_or_takes false = Sub

-- On capability integers, where it is known which operand was converted from a plain integer: the result derives from
-- the one that wasn't, and from the left one where both were or neither was, or in a shift
abbrev pub derives_right : IntOp → Bool → Bool → Bool
derives_right op left_plain right_plain = not (is_shift op) && (left_plain && not right_plain)

abbrev pub derived : IntOp → Bool → Kind → Bool → Bool → Operation
derived op signed count left_plain right_plain =
    let right = derives_right op left_plain right_plain in
    Derived op signed count right (if right then left_plain else right_plain)

-- the library functions, and then the intrinsics, by their numbers
abbrev pub services : List Service
services =
    Put_char ∷ Get_char ∷ Malloc ∷ Exit ∷ Address ∷ Works work.Base ∷ Works work.Offset ∷ Works work.Length
    ∷ Works work.Tag ∷ Works work.Perms
    ∷ Works work.Set_address ∷ Works work.Clear ∷ Bounds false ∷ Bounds true ∷ Works work.And_perms
    ∷ Works work.Equal_exact ∷ Works work.Rounded ∷ Works work.Mask ∷ []

abbrev pub service_of : ℕ → Service
service_of n = slice_index_or services n Exit

-- ---- variables

-- how many of the first x variables are objects
abbrev pub objects_before : List VarDef → ℕ → ℕ
objects_before [] x = 0
objects_before (v ∷ vs) zero = 0
objects_before (v ∷ vs) (suc x) = (if v.simple then 0 else 1) + objects_before vs x

abbrev pub is_simple : Option VarDef → Bool
is_simple None = true
is_simple (Some v) = v.simple

abbrev pub type_of_var : Option VarDef → ℕ
type_of_var None = 0
type_of_var (Some v) = v.of
