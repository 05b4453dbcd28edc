-- The library functions and the intrinsics, by their numbers: their names, what they take and what they give.
use Rattle.std.specs.Prelude.{ℕ, true, false, if◌then◌else◌, List, [], ◌∷◌, ◌++◌, Option, Some, None, codes, bytes_eq}
use Rattle.ck_int.specs.declared.kinds.IntKind.TheVariants as kind
use Rattle.c_tree.specs.Types.{Ty, Void, Int, Cap, Pointer, Tys, no_types, also, Function, bool, int, long}
use Rattle.c_tree.specs.Types.{unsigned_long}
use Rattle.c_tree.specs.Types.{signed_char}

-- an argument: any pointer or capability integer as it is, or what a type is initialised with
pub data Asked : Type 0 where
  Any_capability : Asked
  A : Ty → Asked

-- a result of a type, or of the first argument's type
pub data Given : Type 0 where
  Of : Ty → Given
  As_argument : Given

pub record Service : Type 0 where
  pub name : List ℕ
  pub takes : List Asked
  pub gives : Given

abbrev pub service : List ℕ → List Asked → Given → Service
service name takes gives = record { name = name; takes = takes; gives = gives }

-- `putchar` and `getchar` (C11 7.21.7), `malloc` (7.22.3.4) and `exit` (7.22.4.4), and the intrinsics of CHERI C
unfoldable pub services : List Service
services =
    service (codes "putchar") (A int ∷ []) (Of int)
    ∷ service (codes "getchar") [] (Of int)
    ∷ service (codes "malloc") (A unsigned_long ∷ []) (Of (Pointer Void))
    ∷ service (codes "exit") (A int ∷ []) (Of Void)
    ∷ service (codes "cheri_address_get") (Any_capability ∷ []) (Of unsigned_long)
    ∷ service (codes "cheri_base_get") (Any_capability ∷ []) (Of unsigned_long)
    ∷ service (codes "cheri_offset_get") (Any_capability ∷ []) (Of unsigned_long)
    ∷ service (codes "cheri_length_get") (Any_capability ∷ []) (Of unsigned_long)
    ∷ service (codes "cheri_tag_get") (Any_capability ∷ []) (Of bool)
    ∷ service (codes "cheri_perms_get") (Any_capability ∷ []) (Of unsigned_long)
    ∷ service (codes "cheri_address_set") (Any_capability ∷ A unsigned_long ∷ []) As_argument
    ∷ service (codes "cheri_tag_clear") (Any_capability ∷ []) As_argument
    ∷ service (codes "cheri_bounds_set") (Any_capability ∷ A unsigned_long ∷ []) As_argument
    ∷ service (codes "cheri_bounds_set_exact") (Any_capability ∷ A unsigned_long ∷ []) As_argument
    ∷ service (codes "cheri_perms_and") (Any_capability ∷ A unsigned_long ∷ []) As_argument
    ∷ service (codes "cheri_is_equal_exact") (Any_capability ∷ Any_capability ∷ []) (Of bool)
    ∷ service (codes "cheri_representable_length") (A unsigned_long ∷ []) (Of unsigned_long)
    ∷ service (codes "cheri_representable_alignment_mask") (A unsigned_long ∷ []) (Of unsigned_long)
    ∷ []

-- the other spelling of an intrinsic: `__builtin_` before its name, but for two
abbrev pub builtin_name : List ℕ → List ℕ
builtin_name name =
    (if bytes_eq name (codes "cheri_is_equal_exact") then codes "__builtin_cheri_equal_exact"
    else (if bytes_eq name (codes "cheri_representable_length") then codes "__builtin_cheri_round_representable_length"
    else codes "__builtin_" ++ name))

-- the type of a service as a function, if it has one
abbrev pub with_one : Option Tys → Ty → Option Tys
with_one None t = None
with_one (Some ts) t = Some (also t ts)

abbrev pub signature_types : List Asked → Option Tys
signature_types [] = Some no_types
signature_types (Any_capability ∷ xs) = None
signature_types (A t ∷ xs) = with_one (signature_types xs) t

abbrev pub signature_of : Option Tys → Given → Option Ty
signature_of (Some ts) (Of t) = Some (Function t ts)
signature_of ts g = None

abbrev pub signature : Service → Option Ty
signature s = signature_of (signature_types s.takes) s.gives

-- the typedef names that are declared before a file
unfoldable pub aliases : List (List ℕ × Ty)
aliases =
    (codes "size_t", unsigned_long) ∷ (codes "ptraddr_t", unsigned_long) ∷ (codes "ptrdiff_t", long)
    ∷ (codes "intptr_t", Cap true) ∷ (codes "uintptr_t", Cap false)
    ∷ (codes "int8_t", signed_char) ∷ (codes "int16_t", Int kind.I16 0) ∷ (codes "int32_t", int)
    ∷ (codes "int64_t", long)
    ∷ (codes "uint8_t", Int kind.U8 1) ∷ (codes "uint16_t", Int kind.U16 0) ∷ (codes "uint32_t", Int kind.U32 0)
    ∷ (codes "uint64_t", unsigned_long) ∷ []
