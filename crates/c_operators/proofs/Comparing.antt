-- Pointers, and comparison.
use Rattle.std.proofs.Common.{◌≡◌, Bool, true, false, Some, None, refl, sym, ap, ◌∙◌}
use Rattle.std.specs.Prelude.{◌&&◌, not, if◌then◌else◌}
use Rattle.ck_base.specs.declared.positions.Pos.{Pos}
use Rattle.ck_int.specs.declared.kinds.CmpOp.{CmpOp}
use Rattle.c_tree.specs.Types.{Ty, Pointer, is_integer, is_function, is_pointer, target_of, compatible_bare}
use Rattle.c_tree.specs.Constants.{is_null_constant}
use Rattle.c_tree.specs.Scopes.{refuse}
use Rattle.c_tree.specs.Conversions.{Operand, operand_type}
use Rattle.c_tree.specs.Expressions.{differ, both_agree, compared, is_void_pointer}
use Rattle.c_operators.specs.declared.pointers.Fallback.TheVariants as fallbacks
use Rattle.c_operators.specs.Rules.{comparing, comparing_as, comparing_by, comparing_pointers, null_of, with_right}
use Rattle.c_operators.specs.Rules.{with_left}

pub agree_pointers : (s t x y : Ty) → target_of s ≡ Some x → target_of t ≡ Some y → both_agree s t ≡ compatible_bare x y
agree_pointers (Pointer a) (Pointer b) x y d e =
    let i : a ≡ x = cc in let j : b ≡ y = cc in ap (λ u. compatible_bare u b) i ∙ ap (compatible_bare x) j
agree_pointers (Pointer a) _ x y d e = absurd cc
agree_pointers _ t x y d e = absurd cc

pub agree_left : (s t : Ty) → target_of s ≡ None → both_agree s t ≡ false
agree_left (Pointer a) t e = absurd cc
agree_left _ t e = refl

pub agree_right : (s t : Ty) → target_of t ≡ None → both_agree s t ≡ false
agree_right (Pointer a) (Pointer b) e = absurd cc
agree_right (Pointer a) _ e = refl
agree_right _ t e = refl

pub differ_pointers : (s t x y : Ty) → target_of s ≡ Some x → target_of t ≡ Some y →
    differ s t ≡ (not (is_function x) && compatible_bare x y)
differ_pointers (Pointer a) (Pointer b) x y d e =
    let i : a ≡ x = cc in let j : b ≡ y = cc in
    ap (λ u. not (is_function u) && compatible_bare u b) i ∙ ap (λ u. not (is_function x) && compatible_bare x u) j
differ_pointers (Pointer a) _ x y d e = absurd cc
differ_pointers _ t x y d e = absurd cc

pub differ_left : (s t : Ty) → target_of s ≡ None → differ s t ≡ false
differ_left (Pointer a) t e = absurd cc
differ_left _ t e = refl

pub differ_right : (s t : Ty) → target_of t ≡ None → differ s t ≡ false
differ_right (Pointer a) (Pointer b) e = absurd cc
differ_right (Pointer a) _ e = refl
differ_right _ t e = refl

-- ---- choices between steps

pub first_of : {A : Type 0} (b : Bool) (x y : A) → b ≡ true → (if b then x else y) ≡ x
first_of b x y e = ap (λ c. (if c then x else y)) e

pub second_of : {A : Type 0} (b : Bool) (x y : A) → b ≡ false → (if b then x else y) ≡ y
second_of b x y e = ap (λ c. (if c then x else y)) e

falls : (d e : Bool) (o : CmpOp) (p : Pos) (x y : Operand) →
    comparing_as (if d then fallbacks.Left else (if e then fallbacks.Right else fallbacks.Neither)) o p x y
    ≡ (if d then with_left o p x y else (if e then with_right o p x y else refuse 133 x.first))
falls true e o p x y = refl
falls false true o p x y = refl
falls false false o p x y = refl

falls_null : (b c : Bool) (o : CmpOp) (p : Pos) (x y : Operand) →
    comparing_by (if b then fallbacks.Right else (if c then fallbacks.Left else fallbacks.Neither)) o p x y
    ≡ (if b then with_right o p x y else (if c then with_left o p x y else comparing_pointers o p x y))
falls_null true c o p x y = refl
falls_null false true o p x y = refl
falls_null false false o p x y = refl

pub compared-falls : (o : CmpOp) (a b : Operand) (p : Pos) →
    (is_integer (operand_type a) && is_integer (operand_type b)) ≡ false →
    compared o a b p ≡ comparing_by (null_of (operand_type a) (operand_type b) (is_null_constant a.is)
    (is_null_constant b.is)) o p a b
compared-falls o a b p e =
    let s = operand_type a in
    let t = operand_type b in
    let right = is_pointer s && is_null_constant b.is in
    let left = is_pointer t && is_null_constant a.is in
    let last = falls (is_pointer s && is_void_pointer t) (is_void_pointer s && is_pointer t) o p a b in
    second_of (is_integer s && is_integer t) _ _ e
    ∙ sym (falls_null right left o p a b
    ∙ ap (λ z. (if right then with_right o p a b
    else (if left then with_left o p a b
    else (if both_agree s t then comparing o a.is b.is p a.first else z)))) last)
