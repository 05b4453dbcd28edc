-- Constant expressions (C11 6.6) over expressions whose types are known.
use Rattle.std.specs.Prelude.{ℕ, negsuc, Bool, true, false, not, ◌&&◌, ◌||◌, ◌==◌, if◌then◌else◌, List, [], ◌∷◌, Option}
use Rattle.std.specs.Prelude.{Some, None}
use Rattle.ck_int.specs.declared.kinds.IntKind.{IntKind}
use Rattle.ck_int.specs.declared.kinds.IntKind.TheVariants as kind
use Rattle.ck_int.specs.declared.kinds.IntOp.{IntOp}
use Rattle.ck_int.specs.declared.kinds.IntOp.TheVariants.{Sub, Div, Rem, Xor}
use Rattle.ck_int.specs.Kinds.{wrapped, converted}
use Rattle.ck_int.specs.Arithmetic.{binary_of, compare_of}
use Rattle.c_tree.specs.declared.typed.UnaryOp.{UnaryOp}
use Rattle.c_tree.specs.declared.typed.UnaryOp.TheVariants as unary
use Rattle.c_tree.specs.Types.{Ty, Void, Int, Cap, Pointer, bare, is_integer}
use Rattle.c_tree.specs.Terms.{Shape, Constant, Convert, Unary, Arithmetic, Capability, Compare, And, Or, Conditional}
use Rattle.c_tree.specs.Terms.{Term, term, Terms, no_terms, with_term, type_of}

-- the kind at which an integer type is computed; a capability integer is computed as its address
abbrev pub kind_of : Ty → IntKind
kind_of (Int k n) = k
kind_of (Cap true) = kind.I64
kind_of (Cap false) = kind.U64
kind_of t = kind.U64

-- ---- the form (6.6p3, p6)

-- whether a node with operands that are constant is one itself, where it has this type
abbrev pub is_constant_shape : Shape → Ty → Bool
is_constant_shape (Constant n) t = true
is_constant_shape Convert t = is_integer (bare t)
is_constant_shape (Unary o) t = true
is_constant_shape (Arithmetic o) t = true
is_constant_shape (Capability o r) t = true
is_constant_shape (Compare o) t = true
is_constant_shape And t = true
is_constant_shape Or t = true
is_constant_shape Conditional t = true
is_constant_shape _ t = false

abbrev mutual
  pub is_constant : Term → Bool
  is_constant (term n xs t p) = is_constant_shape n t && all_constant xs

  pub all_constant : Terms → Bool
  all_constant no_terms = true
  all_constant (with_term x xs) = is_constant x && all_constant xs

-- ---- the value, in the 64 bits of its extension. There is none behind a division by zero that is evaluated

abbrev pub with_value : Option ℕ → (ℕ → Option ℕ) → Option ℕ
with_value None f = None
with_value (Some v) f = f v

abbrev pub divides : IntOp → Bool
divides Div = true
divides Rem = true
divides o = false

abbrev pub computed : IntOp → Ty → ℕ → ℕ → Option ℕ
computed o t a b = (if divides o && b == 0 then None else Some (binary_of o (kind_of t) a b))

abbrev pub truth : Bool → ℕ
truth true = 1
truth false = 0

abbrev pub unary_value : UnaryOp → Ty → ℕ → ℕ
unary_value unary.Plus t a = a
unary_value unary.Minus t a = binary_of Sub (kind_of t) 0 a
unary_value unary.Complement t a = binary_of Xor (kind_of t) (wrapped (kind_of t) (negsuc 0)) a
unary_value unary.LogicalNot t a = truth (a == 0)

-- the types and the values of the operands
abbrev pub Operands : Type 0
Operands = List (Ty × Option ℕ)

abbrev pub node_value : Shape → Ty → Operands → Option ℕ
node_value (Constant n) t [] = Some n
node_value Convert t (a ∷ []) = with_value a.1 (λ v. Some (converted (kind_of a.0) (kind_of t) v))
node_value (Unary o) t (a ∷ []) = with_value a.1 (λ v. Some (unary_value o t v))
node_value (Arithmetic o) t (a ∷ b ∷ []) = with_value a.1 (λ v. with_value b.1 (λ w. computed o t v w))
node_value (Capability o r) t (a ∷ b ∷ []) = with_value a.1 (λ v. with_value b.1 (λ w. computed o t v w))
node_value (Compare o) t (a ∷ b ∷ []) =
    with_value a.1 (λ v. with_value b.1 (λ w. Some (truth (compare_of o (kind_of a.0) v w))))
node_value And t (a ∷ b ∷ []) =
    with_value a.1 (λ v. (if v == 0 then Some 0 else with_value b.1 (λ w. Some (truth (not (w == 0))))))
node_value Or t (a ∷ b ∷ []) =
    with_value a.1 (λ v. (if v == 0 then with_value b.1 (λ w. Some (truth (not (w == 0)))) else Some 1))
node_value Conditional t (a ∷ b ∷ c ∷ []) = with_value a.1 (λ v. (if v == 0 then c.1 else b.1))
node_value n t xs = None

abbrev mutual
  pub value_of : Term → Option ℕ
  value_of (term n xs t p) = node_value n (bare t) (values_of xs)

  pub values_of : Terms → Operands
  values_of no_terms = []
  values_of (with_term x xs) = (bare (type_of x), value_of x) ∷ values_of xs

-- the value of an integer constant expression
unfoldable pub constant_of : Term → Option ℕ
constant_of x = (if is_constant x && is_integer (bare (type_of x)) then value_of x else None)

-- 6.3.2.3p3: a null pointer constant
abbrev pub is_zero : Option ℕ → Bool
is_zero (Some v) = v == 0
is_zero None = false

abbrev pub is_pointer_to_void : Ty → Bool
is_pointer_to_void (Pointer Void) = true
is_pointer_to_void t = false

unfoldable pub is_null_constant : Term → Bool
is_null_constant (term Convert (with_term x no_terms) t p) =
    is_zero (constant_of (term Convert (with_term x no_terms) t p)) || (is_pointer_to_void t && is_zero (constant_of x))
is_null_constant x = is_zero (constant_of x)
