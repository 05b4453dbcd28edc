-- Compatible types (C11 6.2.7).
use Rattle.std.specs.Prelude.{ℕ, zero, suc, ◌==◌, ◌&&◌, ◌||◌, Bool, true, false, List, [], ◌∷◌, length, Option, Some}
use Rattle.std.specs.Prelude.{slice_get}
use Rattle.ck_int.specs.declared.kinds.IntKind.{IntKind}
use Rattle.ck_int.specs.declared.kinds.IntKind.TheVariants as int
use Rattle.c_tree.specs.Layout.{bare}
use Rattle.c_tree.specs.declared.typed.CType.{CType}
use Rattle.c_tree.specs.declared.typed.CType.TheVariants.{Void, Int, Cap, Pointer, Array, Struct, Union, Function}
use Rattle.c_tree.specs.declared.typed.CType.TheVariants.{Const, Incomplete}

-- a number for each kind
abbrev pub kind_number : IntKind → ℕ
kind_number int.Bool = 0
kind_number int.I8 = 1
kind_number int.U8 = 2
kind_number int.I16 = 3
kind_number int.U16 = 4
kind_number int.I32 = 5
kind_number int.U32 = 6
kind_number int.I64 = 7
kind_number int.U64 = 8

abbrev pub same_bool : Bool → Bool → Bool
same_bool true b = b
same_bool false true = false
same_bool false false = true

-- the lengths of arrays are equal, or one is not known (C11 6.7.6.2p6)
abbrev pub lengths_agree : ℕ → ℕ → Bool
lengths_agree m n = m == 0 || n == 0 || m == n

abbrev pub all_agree : (ℕ → ℕ → Bool) → List ℕ → List ℕ → Bool
all_agree agree [] [] = true
all_agree agree [] (u ∷ us) = false
all_agree agree (t ∷ ts) [] = false
all_agree agree (t ∷ ts) (u ∷ us) = agree t u && all_agree agree ts us

-- One level of two types, over the compatibility of those that they name, and of parameters, whose own const doesn't
-- count (C11 6.7.6.3p15). A struct or union is the one with the same tag; it may be complete in one place and not in
-- the other
abbrev pub agree_of : (ℕ → ℕ → Bool) → (ℕ → ℕ → Bool) → Option CType → Option CType → Bool
agree_of agree parameter (Some Void) (Some Void) = true
agree_of agree parameter (Some (Int k n)) (Some (Int k' n')) = kind_number k == kind_number k' && n == n'
agree_of agree parameter (Some (Cap s)) (Some (Cap s')) = same_bool s s'
agree_of agree parameter (Some (Pointer t)) (Some (Pointer u)) = agree t u
agree_of agree parameter (Some (Array t n)) (Some (Array u n')) = agree t u && lengths_agree n n'
agree_of agree parameter (Some (Struct tag ms)) (Some (Struct tag' ms')) = tag == tag'
agree_of agree parameter (Some (Struct tag ms)) (Some (Incomplete tag')) = tag == tag'
agree_of agree parameter (Some (Incomplete tag)) (Some (Struct tag' ms')) = tag == tag'
agree_of agree parameter (Some (Union tag ms)) (Some (Union tag' ms')) = tag == tag'
agree_of agree parameter (Some (Union tag ms)) (Some (Incomplete tag')) = tag == tag'
agree_of agree parameter (Some (Incomplete tag)) (Some (Union tag' ms')) = tag == tag'
agree_of agree parameter (Some (Incomplete tag)) (Some (Incomplete tag')) = tag == tag'
agree_of agree parameter (Some (Const t)) (Some (Const u)) = agree t u
agree_of agree parameter (Some (Function t ps)) (Some (Function u qs)) = agree t u && all_agree parameter ps qs
agree_of agree parameter a b = false

-- Types of a list whose parts lie at most so many levels deep in one another; the truth value says that the two types'
-- own const doesn't count
unfoldable pub agree_within : ℕ → List CType → Bool → ℕ → ℕ → Bool
agree_within zero types loose t u = false
agree_within (suc d) types true t u =
    agree_of (agree_within d types false) (agree_within d types true) (bare types t) (bare types u)
agree_within (suc d) types false t u =
    agree_of (agree_within d types false) (agree_within d types true) (slice_get types t) (slice_get types u)

abbrev pub compatible : List CType → ℕ → ℕ → Bool
compatible types t u = agree_within (length types) types false t u
