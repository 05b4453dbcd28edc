-- The relation, for operations on values that are in temps: the code of each, by where the operands, the result and the
-- next temp are, and how many temps it takes. Each function of the lowering's operations has its mirror here.
use Rattle.std.specs.Prelude.{◌≡◌, ℕ, ◌+◌, ◌-◌, ◌%◌, ◌^◌, ◌==◌, ◌&&◌, not, Bool, true, false, List, [], ◌∷◌}
use Rattle.std.specs.Prelude.{Option, Some, None, pos, if◌then◌else◌}
use Rattle.ck_int.specs.Kinds.{wrapped}
use Rattle.ck_int.specs.declared.kinds.CmpOp.TheVariants.{Eq}
use Rattle.ck_int.specs.declared.kinds.IntKind.{IntKind}
use Rattle.ck_int.specs.declared.kinds.IntKind.TheVariants as int
use Rattle.ck_int.specs.declared.kinds.IntOp.{IntOp}
use Rattle.ck_int.specs.declared.kinds.IntOp.TheVariants.{Add, Sub, Mul, Div, Rem, Xor, Shr}
use Rattle.cheri_c_sem.specs.Tree.{Operation, Whole, Derived, Moved, Apart, Sign, Positive, Negative, Complement}
use Rattle.cheri_c_sem.specs.Types.{is_shift}
use Rattle.tac_ir.specs.Effects.{kind_of, kind_at}
use Rattle.tac_ir.specs.WellFormed.{same_kind, is_int}
use Rattle.tac_ir.specs.declared.code.Amount.TheVariants as amount
use Rattle.tac_ir.specs.declared.code.CapWork.TheVariants.{SetAddress}
use Rattle.tac_ir.specs.declared.code.TacInstr.{TacInstr}
use Rattle.tac_ir.specs.declared.code.TacInstr.TheVariants as instr
use Rattle.tac_ir.specs.declared.code.TacKind.{TacKind}
use Rattle.tac_ir.specs.declared.code.TacKind.TheVariants as kind

-- instructions in front of those that follow
abbrev pub Code : Type 0
Code = List TacInstr → List TacInstr

abbrev pub word : TacKind
word = kind.Int int.U64

abbrev pub long : TacKind
long = kind.Int int.I64

abbrev pub is_capability : TacKind → Bool
is_capability (kind.Int k) = false
is_capability (kind.Cap signed) = true

-- the right operands of operations on integers have integer kinds
abbrev pub AreInts : List TacKind → List TacInstr → Type 0
AreInts kinds [] = Unit {0}
AreInts kinds (instr.Int op k to a b ∷ is) = (is_int (kind_at kinds b) ≡ true) × AreInts kinds is
AreInts kinds (i ∷ is) = AreInts kinds is

-- ---- copies: none where the value is there

abbrev pub transfer : (to from : ℕ) → Code
transfer to from rest = if to == from then rest else instr.Copy to from ∷ rest

abbrev pub give : Option ℕ → ℕ → Code
give None from rest = rest
give (Some to) from rest = transfer to from rest

-- ---- unary operations

-- the number all of whose bits are set, as a kind keeps it
abbrev pub all_ones : IntKind → ℕ
all_ones k = wrapped k (pos (2 ^ 64 - 1))

abbrev pub negated : TacKind → (to x n : ℕ) → Code
negated k to x n rest = instr.Const n k 0 ∷ instr.Cmp Eq k to x n ∷ rest

abbrev pub signed_integer : Sign → IntKind → (to x n : ℕ) → Code
signed_integer Positive k to x n rest = transfer to x rest
signed_integer Negative k to x n rest = instr.Const n (kind.Int k) 0 ∷ instr.Int Sub k to n x ∷ rest
signed_integer Complement k to x n rest = instr.Const n (kind.Int k) (all_ones k) ∷ instr.Int Xor k to x n ∷ rest

abbrev pub sign_temps : Sign → ℕ
sign_temps Positive = 0
sign_temps Negative = 1
sign_temps Complement = 1

abbrev pub signed : Sign → TacKind → (to x n : ℕ) → Code
signed sign (kind.Int k) to x n rest = signed_integer sign k to x n rest
signed sign (kind.Cap s) to x n rest =
    instr.Convert n x (kind.Cap s) word ∷ signed_integer sign int.U64 n n (n + 1)
    (instr.Cap SetAddress to x (Some n) ∷ rest)

abbrev pub signed_temps : Sign → TacKind → ℕ
signed_temps sign (kind.Int k) = sign_temps sign
signed_temps sign (kind.Cap s) = 1 + sign_temps sign

-- ---- operations on integers; a count that is a capability is converted first

abbrev pub is_converted : IntOp → TacKind → Bool
is_converted op k = is_shift op && is_capability k

abbrev pub right_operand : IntOp → TacKind → (y n : ℕ) → Code
right_operand op k y n rest = if is_converted op k then instr.Convert n y k word ∷ rest else rest

abbrev pub right_temp : IntOp → TacKind → (y n : ℕ) → ℕ
right_temp op k y n = if is_converted op k then n else y

abbrev pub right_temps : IntOp → TacKind → ℕ
right_temps op k = if is_converted op k then 1 else 0

abbrev pub whole : IntOp → IntKind → TacKind → (to x y n : ℕ) → Code
whole op j k to x y n rest = right_operand op k y n (instr.Int op j to x (right_temp op k y n) ∷ rest)

-- ---- operations on capability integers

-- only a quotient, a remainder and a shift to the right depend on the sign
abbrev pub address_kind : IntOp → Bool → IntKind
address_kind Div true = int.I64
address_kind Rem true = int.I64
address_kind Shr true = int.I64
address_kind op signed = int.U64

abbrev pub keeps_count : IntOp → TacKind → Bool
keeps_count op k = is_shift op && not (is_capability k)

abbrev pub address_operand : IntOp → IntKind → TacKind → (y n : ℕ) → Code
address_operand op i k y n rest = if keeps_count op k then rest else instr.Convert n y k (kind.Int i) ∷ rest

abbrev pub address_temp : IntOp → TacKind → (y n : ℕ) → ℕ
address_temp op k y n = if keeps_count op k then y else n

-- the address computed from operands of two kinds, in the next temp
abbrev pub computed_address : IntOp → Bool → (j k : TacKind) → (x y n : ℕ) → Code
computed_address op signed j k x y n rest =
    let i = address_kind op signed in
    instr.Convert n x j (kind.Int i) ∷ address_operand op i k y (n + 1)
    (instr.Int op i n n (address_temp op k y (n + 1)) ∷ rest)

abbrev pub address_temps : IntOp → TacKind → ℕ
address_temps op k = if keeps_count op k then 1 else 2

abbrev pub origin : Bool → (j k : TacKind) → (x y : ℕ) → ℕ
origin right j k x y = if right && same_kind (kind_of k) (kind_of j) then y else x

abbrev pub derived : IntOp → Bool → Bool → TacKind → (to x y n : ℕ) → Code
derived op s right k to x y n rest =
    computed_address op s (kind.Cap s) k x y n
    (instr.Cap SetAddress to (origin right (kind.Cap s) k x y) (Some n) ∷ rest)

-- ---- pointers

abbrev pub wide_kind : TacKind → IntKind
wide_kind (kind.Int int.I8) = int.I64
wide_kind (kind.Int int.I16) = int.I64
wide_kind (kind.Int int.I32) = int.I64
wide_kind (kind.Int int.I64) = int.I64
wide_kind k = int.U64

abbrev pub is_wide : TacKind → Bool
is_wide (kind.Int int.I64) = true
is_wide (kind.Int int.U64) = true
is_wide k = false

-- the size of an element, negative where a pointer is moved down, modulo 2 ^ 64
abbrev pub stride : ℕ → Bool → ℕ
stride size false = size % 2 ^ 64
stride size true = (2 ^ 64 - size % 2 ^ 64) % 2 ^ 64

abbrev pub scaled : TacKind → (by i n : ℕ) → Code
scaled k by i n rest =
    if is_wide k then instr.Const n (kind.Int (wide_kind k)) by ∷ instr.Int Mul (wide_kind k) (n + 1) i n ∷ rest
    else instr.Convert n i k (kind.Int (wide_kind k)) ∷ instr.Const (n + 1) (kind.Int (wide_kind k)) by
    ∷ instr.Int Mul (wide_kind k) n n (n + 1) ∷ rest

abbrev pub scaled_temp : TacKind → ℕ → ℕ
scaled_temp k n = if is_wide k then n + 1 else n

-- a pointer moved by so many elements of a number of bytes
abbrev pub moved : TacKind → (by to base i n : ℕ) → Code
moved k by to base i n rest =
    if by == 1 then (if is_capability k then instr.Convert n i k word ∷ instr.Offset to base (amount.Temp n) ∷ rest
    else instr.Offset to base (amount.Temp i) ∷ rest)
    else scaled k by i n (instr.Offset to base (amount.Temp (scaled_temp k n)) ∷ rest)

abbrev pub moved_temps : TacKind → ℕ → ℕ
moved_temps k by = if by == 1 then (if is_capability k then 1 else 0) else 2

abbrev pub difference : ℕ → (to x y n : ℕ) → Code
difference size to x y n rest =
    instr.Convert n x (kind.Cap false) long ∷ instr.Convert (n + 1) y (kind.Cap false) long
    ∷ (if size == 1 then instr.Int Sub int.I64 to n (n + 1) ∷ rest
    else instr.Int Sub int.I64 n n (n + 1) ∷ instr.Const (n + 1) long size ∷ instr.Int Div int.I64 to n (n + 1) ∷ rest)

-- ---- a place's value of a kind j, changed by a right operand of a kind k

abbrev pub changed_whole : IntOp → IntKind → (j k : TacKind) → (to x y n : ℕ) → Code
changed_whole op i j k to x y n rest =
    let m = n + right_temps op k in
    right_operand op k y n
    (if same_kind (kind_of j) (kind_of (kind.Int i)) then instr.Int op i to x (right_temp op k y n) ∷ rest
    else instr.Convert m x j (kind.Int i) ∷ instr.Int op i m m (right_temp op k y n) ∷ instr.Convert to m (kind.Int i) j
    ∷ rest)

abbrev pub changed_capability : IntOp → Bool → (j k : TacKind) → (to x y n : ℕ) → Code
changed_capability op s j k to x y n rest =
    computed_address op s j k x y n (if is_capability j then instr.Cap SetAddress to x (Some n) ∷ rest
    else instr.Convert to n (kind.Int (address_kind op s)) j ∷ rest)

abbrev pub changed : Operation → (j k : TacKind) → (to x y n : ℕ) → Code
changed (Whole op i count) j k to x y n rest = changed_whole op i j k to x y n rest
changed (Derived op s count right plain) j k to x y n rest = changed_capability op s j k to x y n rest
changed (Moved size minus left count) j k to x y n rest = moved k (stride size minus) to x y n rest
changed (Apart size) j k to x y n rest = rest

abbrev pub changed_temps : Operation → (j k : TacKind) → ℕ
changed_temps (Whole op i count) j k =
    right_temps op k + (if same_kind (kind_of j) (kind_of (kind.Int i)) then 0 else 1)
changed_temps (Derived op s count right plain) j k = address_temps op k
changed_temps (Moved size minus left count) j k = moved_temps k (stride size minus)
changed_temps (Apart size) j k = 0

-- a value moved by one
abbrev pub stepped : Operation → TacKind → (to x n : ℕ) → Code
stepped (Whole op i count) (kind.Int k) to x n rest = instr.Const n (kind.Int k) 1 ∷ instr.Int op k to x n ∷ rest
stepped (Derived Add s count right plain) k to x n rest = instr.Offset to x (amount.Number 1) ∷ rest
stepped (Derived op s count right plain) k to x n rest = instr.Offset to x (amount.Number (stride 1 true)) ∷ rest
stepped (Moved size minus left count) k to x n rest = instr.Offset to x (amount.Number (stride size minus)) ∷ rest
stepped op k to x n rest = rest

abbrev pub stepped_temps : Operation → ℕ
stepped_temps (Whole op i count) = 1
stepped_temps op = 0
