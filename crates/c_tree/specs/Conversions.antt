-- What an expression stands for where a value is wanted, and how values are converted (C11 6.3, 6.5.16.1).
use Rattle.std.specs.Prelude.{Bool, true, false, not, ◌&&◌, ◌||◌, if◌then◌else◌}
use Rattle.ck_base.specs.declared.positions.Pos.{Pos}
use Rattle.c_tree.specs.Types.{Ty, Int, Cap, Pointer, Array, Tagged, Function, bare, is_integer, is_pointer, is_void}
use Rattle.c_tree.specs.Types.{is_bool, is_tagged, same, compatible_bare}
use Rattle.c_tree.specs.Terms.{Literal, Var, Global, Load, Decay, Deref, Member, Convert, Term, term, no_terms}
use Rattle.c_tree.specs.Terms.{with_term, type_of, pos_of, step}
use Rattle.c_tree.specs.Scopes.{State, Doing, give, need, look, ◌>>=◌, ◌>>◌, is_complete}
use Rattle.c_tree.specs.Constants.{is_null_constant}

-- a typed expression, and the first byte of what was written
pub record Operand : Type 0 where
  pub is : Term
  pub first : Pos

abbrev pub operand_type : Operand → Ty
operand_type x = type_of x.is

-- ---- places (6.3.2.1p1)

-- An expression that designates an object. A member of a struct or union value that is no place designates a part of
-- the object from which the value was taken, and is no place itself
abbrev pub is_place : Term → Bool
is_place (term (Literal k) xs t p) = true
is_place (term (Var k) xs t p) = true
is_place (term (Global k) xs t p) = true
is_place (term Deref xs t p) = true
is_place (term (Member k) (with_term a no_terms) t p) = is_place a
is_place x = false

abbrev pub is_member : Term → Bool
is_member (term (Member k) xs t p) = true
is_member x = false

-- where a value is read from when one is wanted
abbrev pub designates : Term → Bool
designates x = is_place x || is_member x

-- ---- values (6.3.2.1p2 to p4)

-- An array becomes the pointer to its first element, a function the pointer to it, and a place what stands there,
-- without qualifiers
abbrev pub value_at : Ty → Term → Term
value_at (Array e n) x = step Decay x (Pointer e) (pos_of x)
value_at (Function r ps) x = step Decay x (Pointer (Function r ps)) (pos_of x)
value_at t x = (if designates x then step Load x (bare t) (pos_of x) else x)

abbrev pub value_term : Term → Term
value_term x = value_at (type_of x) x

-- what stands there is read, so its type must be complete; arrays and functions need not be, nor what is void
abbrev pub is_readable : State → Term → Bool
is_readable s x = not (is_tagged (bare (type_of x))) || is_complete s (type_of x)

abbrev pub value : Operand → Doing Operand
value x = look >>= λ s. need (is_readable s x.is) 132 x.first >> give (record x { is = value_term x.is })

-- ---- conversion

-- to a type, where the expression's own is another
abbrev pub converted_term : Ty → Term → Term
converted_term t x = (if same (type_of x) t then x else step Convert x t (pos_of x))

-- what two pointers point to agrees up to qualifiers, or one points to void (6.5.16.1p1)
abbrev pub targets_agree : Ty → Ty → Bool
targets_agree s t = compatible_bare s t || is_void (bare s) || is_void (bare t)

-- whether a value of the second type, and this expression, goes to the first: an integer to an integer, a scalar to
-- `_Bool`, a pointer to a pointer, a null pointer constant to a pointer, a struct or union to itself
abbrev pub goes_to : Ty → Ty → Term → Bool
goes_to (Int k n) t x = is_integer t || (is_bool (Int k n) && is_pointer t)
goes_to (Cap s) t x = is_integer t
goes_to (Pointer a) (Pointer b) x = targets_agree a b || is_null_constant x
goes_to (Pointer a) t x = is_integer t && is_null_constant x
goes_to (Tagged m) t x = same (Tagged m) t
goes_to s t x = false

-- 6.5.16.1: a value as by assignment to a type, which may be qualified
abbrev pub assigned : Ty → Operand → Doing Term
assigned t x = need (goes_to (bare t) (operand_type x) x.is) 133 x.first >> give (converted_term (bare t) x.is)
