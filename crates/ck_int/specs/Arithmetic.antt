-- The binary operations and the comparisons, on whole numbers.
use Rattle.std.specs.Prelude.{ℕ, ◌^◌, max, Bool, not, if◌then◌else◌, ℤ, pos, negsuc, ◌+ℤ◌, ◌-ℤ◌, ◌*ℤ◌, int_div, int_rem}
use Rattle.std.specs.Prelude.{int_lt, int_le, bit_and, bit_or, bit_xor}
use Rattle.std.specs.Int.{int_div_euclid}
use Rattle.std.specs.Ordering.{int_eq}
use Rattle.ck_int.specs.declared.kinds.IntKind.{IntKind}
use Rattle.ck_int.specs.declared.kinds.IntOp.{IntOp}
use Rattle.ck_int.specs.declared.kinds.IntOp.TheVariants.{Add, Sub, Mul, Div, Rem, And, Or, Xor, Shl, Shr}
use Rattle.ck_int.specs.declared.kinds.CmpOp.{CmpOp}
use Rattle.ck_int.specs.declared.kinds.CmpOp.TheVariants.{Lt, Le, Gt, Ge, Eq, Ne}
use Rattle.ck_int.specs.Kinds.{form_of, width_of, modulo, kept_of, wrapped, value_of}

-- The quotient rounded toward zero (C11 6.5.5p6). By zero it is all ones (RISC-V, M extension, division by zero)
abbrev pub quotient : ℤ → ℤ → ℤ
quotient x y = (if int_eq y (pos 0) then negsuc 0 else int_div x y)

-- the remainder, with the dividend's sign (C11 6.5.5p6). By zero it is the dividend (RISC-V, M extension)
abbrev pub remainder : ℤ → ℤ → ℤ
remainder x y = (if int_eq y (pos 0) then x else int_rem x y)

-- the width of a kind after the integer promotions, which make a kind narrower than `int` an `int` (C11 6.3.1.1p2)
abbrev pub promoted_width_of : IntKind → ℕ
promoted_width_of k = max 32 (width_of (form_of k))

-- What an operation gives before it is reduced to its kind. The last argument but two is the width of the promoted left
-- operand
abbrev pub result_of : IntOp → ℕ → ℤ → ℤ → ℤ
result_of Add w x y = x +ℤ y
result_of Sub w x y = x -ℤ y
result_of Mul w x y = x *ℤ y
result_of Div w x y = quotient x y
result_of Rem w x y = remainder x y
result_of And w x y = pos (bit_and (kept_of x) (kept_of y))
result_of Or w x y = pos (bit_or (kept_of x) (kept_of y))
result_of Xor w x y = pos (bit_xor (kept_of x) (kept_of y))
result_of Shl w x y = x *ℤ pos (2 ^ modulo y w)
result_of Shr w x y = int_div_euclid x (pos (2 ^ modulo y w))

-- an operation at a kind
unfoldable pub binary_of : IntOp → IntKind → ℕ → ℕ → ℕ
binary_of op k a b = wrapped k (result_of op (promoted_width_of k) (value_of k a) (value_of k b))

abbrev pub comparison_of : CmpOp → ℤ → ℤ → Bool
comparison_of Lt x y = int_lt x y
comparison_of Le x y = int_le x y
comparison_of Gt x y = int_lt y x
comparison_of Ge x y = int_le y x
comparison_of Eq x y = int_eq x y
comparison_of Ne x y = not (int_eq x y)

-- a comparison at a kind
unfoldable pub compare_of : CmpOp → IntKind → ℕ → ℕ → Bool
compare_of op k a b = comparison_of op (value_of k a) (value_of k b)
