-- The conditional operator (C11 6.5.15), by parts.
use Rattle.std.specs.Prelude.{Bool, ◌&&◌, ◌||◌, if◌then◌else◌, Option, Some, None}
use Rattle.ck_base.specs.declared.positions.Pos.{Pos}
use Rattle.c_tree.specs.Types.{Ty, Void, Pointer, bare, bare_elements, is_integer, is_pointer, is_scalar, is_void}
use Rattle.c_tree.specs.Types.{common, compatible_bare, composite}
use Rattle.c_tree.specs.Terms.{Conditional, join_three}
use Rattle.c_tree.specs.Scopes.{Doing, need, ◌>>◌}
use Rattle.c_tree.specs.Conversions.{Operand, operand_type, converted_term}
use Rattle.c_tree.specs.Expressions.{gives, with_const_of, pointer_arms}
use Rattle.c_operators.specs.declared.choices.Arms.{Arms}
use Rattle.c_operators.specs.declared.choices.Arms.TheVariants as arms

-- the operator, where the type of its result is known
abbrev pub conditional_with : Ty → Operand → Operand → Operand → Pos → Doing Operand
conditional_with t a b c p =
    need (is_scalar (operand_type a)) 133 a.first >>
    gives (join_three Conditional a.is (converted_term t b.is) (converted_term t c.is) t p) a.first

-- which of the types of two values a choice between them has, where it is known whether both are the same struct or
-- union
abbrev pub arms_where : Bool → Ty → Ty → Bool → Bool → Arms
arms_where tagged s t null_b null_c =
    (if is_integer s && is_integer t then arms.Common
    else (if is_void s && is_void t then arms.Second
    else (if tagged then arms.Second
    else (if is_pointer s && null_c then arms.Second
    else (if is_pointer t && null_b then arms.Third
    else arms.Pointers)))))

abbrev pub arms_as : Arms → Ty → Ty → Option Ty
arms_as arms.Common s t = Some (common s t)
arms_as arms.Second s t = Some s
arms_as arms.Third s t = Some t
arms_as arms.Pointers s t = pointer_arms s t

-- the pointer that pointers to two types become
abbrev pub target_arms : Ty → Ty → Option Ty
target_arms s t =
    (if compatible_bare s t then Some (Pointer (with_const_of s t (composite (bare_elements s) (bare_elements t))))
    else (if is_void (bare s) || is_void (bare t) then Some (Pointer (with_const_of s t Void)) else None))
