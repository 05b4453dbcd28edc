-- Parts of the rules on operands: each rule without its test that the state knows the size of what a pointer points to,
-- and single cases.
use Rattle.std.specs.Prelude.{ℕ, Bool, ◌&&◌, ◌||◌, if◌then◌else◌, List}
use Rattle.ck_base.specs.declared.positions.Pos.{Pos}
use Rattle.ck_int.specs.declared.kinds.IntOp.{IntOp}
use Rattle.ck_int.specs.declared.kinds.IntOp.TheVariants.{Add, Sub, Shl, Shr}
use Rattle.ck_int.specs.declared.kinds.CmpOp.{CmpOp}
use Rattle.c_tree.specs.declared.typed.UnaryOp.{UnaryOp}
use Rattle.c_tree.specs.declared.typed.UnaryOp.TheVariants as unary
use Rattle.c_tree.specs.declared.syntax.InfixOperator.{InfixOperator}
use Rattle.c_tree.specs.declared.syntax.InfixOperator.TheVariants as infixes
use Rattle.c_tree.specs.Types.{Ty, Pointer, bare, is_integer, is_pointer, is_scalar, is_function, int, promoted}
use Rattle.c_tree.specs.Values.{integer_of, number_type, character_value}
use Rattle.c_tree.specs.Terms.{Constant, leaf, Unary, Load, Compare, And, Or, Comma, Compound, Address, Term}
use Rattle.c_tree.specs.Terms.{type_of, pos_of, step, join}
use Rattle.c_tree.specs.Scopes.{Doing, need, refuse, ◌>>◌}
use Rattle.c_tree.specs.Conversions.{Operand, operand_type, designates, is_place, converted_term}
use Rattle.c_tree.specs.Expressions.{gives, arithmetic, shift, sum_of, difference_of, compared, logical, is_modifiable}
use Rattle.c_tree.specs.Expressions.{both_agree, compounds, computed_in, right_of, is_void_pointer}
pub use Rattle.c_operand_rules.specs.Steps.{stepped_of}
use Rattle.c_operators.specs.declared.pointers.Fallback.{Fallback}
use Rattle.c_operators.specs.declared.pointers.Fallback.TheVariants as fallbacks

abbrev pub negated : Operand → Pos → Doing Operand
negated a p = need (is_scalar (operand_type a)) 133 p >> gives (step (Unary unary.LogicalNot) a.is int p) p

-- `+`, `-` and `~`
abbrev pub promoted_unary : UnaryOp → Operand → Pos → Doing Operand
promoted_unary o a p =
    let t = promoted (operand_type a) in
    need (is_integer (operand_type a)) 133 p >> gives (step (Unary o) (converted_term t a.is) t p) p

abbrev pub int_join_of : IntOp → Operand → Operand → Pos → Doing Operand
int_join_of Add a b p = sum_of a b p
int_join_of Sub a b p = difference_of a b p
int_join_of Shl a b p = shift Shl a b p
int_join_of Shr a b p = shift Shr a b p
int_join_of o a b p = arithmetic o a b p

abbrev pub infix_join_of : InfixOperator → Operand → Operand → Pos → Doing Operand
infix_join_of (infixes.Int o) a b p = int_join_of o a b p
infix_join_of (infixes.Compare o) a b p = compared o a b p
infix_join_of infixes.And a b p = logical And a b p
infix_join_of infixes.Or a b p = logical Or a b p
infix_join_of infixes.Comma a b p = gives (join Comma a.is b.is (operand_type b) p) a.first

-- ---- comparison

abbrev pub comparing : CmpOp → Term → Term → Pos → Pos → Doing Operand
comparing o x y p first = gives (join (Compare o) x y int p) first

-- the right operand is converted to the type of the left one, or the left one to that of the right one
abbrev pub with_right : CmpOp → Pos → Operand → Operand → Doing Operand
with_right o p a b = comparing o a.is (converted_term (operand_type a) b.is) p a.first

abbrev pub with_left : CmpOp → Pos → Operand → Operand → Doing Operand
with_left o p a b = comparing o (converted_term (operand_type b) a.is) b.is p a.first

-- a null pointer constant on the right or on the left
abbrev pub null_of : Ty → Ty → Bool → Bool → Fallback
null_of s t null_a null_b =
    (if is_pointer s && null_b then fallbacks.Right
    else (if is_pointer t && null_a then fallbacks.Left else fallbacks.Neither))

-- a pointer beside one to void
abbrev pub fallback_of : Ty → Ty → Fallback
fallback_of s t = (if is_pointer s && is_void_pointer t then fallbacks.Left
    else (if is_void_pointer s && is_pointer t then fallbacks.Right else fallbacks.Neither))

abbrev pub comparing_as : Fallback → CmpOp → Pos → Operand → Operand → Doing Operand
comparing_as fallbacks.Right o p a b = with_right o p a b
comparing_as fallbacks.Left o p a b = with_left o p a b
comparing_as fallbacks.Neither o p a b = refuse 133 a.first

-- two operands that are not both integers, neither a null pointer constant
abbrev pub comparing_pointers : CmpOp → Pos → Operand → Operand → Doing Operand
comparing_pointers o p a b =
    (if both_agree (operand_type a) (operand_type b) then comparing o a.is b.is p a.first
    else comparing_as (fallback_of (operand_type a) (operand_type b)) o p a b)

abbrev pub comparing_by : Fallback → CmpOp → Pos → Operand → Operand → Doing Operand
comparing_by fallbacks.Right o p a b = with_right o p a b
comparing_by fallbacks.Left o p a b = with_left o p a b
comparing_by fallbacks.Neither o p a b = comparing_pointers o p a b

abbrev pub compound_of : IntOp → Operand → Operand → Pos → Doing Operand
compound_of o a b p =
    let s = bare (operand_type a) in
    let t = operand_type b in
    need (is_modifiable a.is && compounds o s t) 133 a.first >>
    gives (join (Compound o (computed_in o s t)) a.is (right_of o s b.is) s p) a.first

-- the address of a place or function. That the address of a local is taken is another step
abbrev pub address_of : Operand → Pos → Doing Operand
address_of a p =
    need (is_place a.is || is_function (operand_type a)) 133 p >>
    gives (step Address a.is (Pointer (operand_type a)) p) p

-- ---- constants, by the bytes that spell them

abbrev pub number_at : List ℕ → Pos → Doing Operand
number_at text p = gives (leaf (Constant (integer_of text).value) (number_type text) p) p

abbrev pub character_at : List ℕ → Pos → Doing Operand
character_at text p = gives (leaf (Constant (character_value text)) int p) p
