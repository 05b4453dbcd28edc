-- What instructions cost at most: in words of machine code, and in steps of a machine that goes through these words
-- once. A temp that stands in the frame is read and written in three words at any distance.
use Rattle.std.specs.Prelude.{ℕ, ◌+◌, ◌-◌, ◌*◌, ◌^◌, ◌&&◌, ◌||◌, Bool, true, false, List, [], ◌∷◌, max, min, nat_lt}
use Rattle.std.specs.Prelude.{nat_le, length, if◌then◌else◌}
use Rattle.std.specs.List.{sum_by}
use Rattle.ck_int.specs.declared.kinds.IntKind.{IntKind}
use Rattle.ck_int.specs.declared.kinds.IntKind.TheVariants as int
use Rattle.tac_ir.specs.declared.code.Amount.{Amount}
use Rattle.tac_ir.specs.declared.code.Amount.TheVariants as amount
use Rattle.tac_ir.specs.declared.code.LibOp.{LibOp}
use Rattle.tac_ir.specs.declared.code.LibOp.TheVariants as lib
use Rattle.tac_ir.specs.declared.code.TacFun.{TacFun}
use Rattle.tac_ir.specs.declared.code.TacInstr.{TacInstr}
use Rattle.tac_ir.specs.declared.code.TacInstr.TheVariants as instr
use Rattle.tac_ir.specs.declared.code.TacKind.{TacKind}
use Rattle.tac_ir.specs.declared.code.TacKind.TheVariants as kind

-- a number into a register: one word where 12 bits of two's complement hold it, two where 32 do, and two more for each
-- further 12
abbrev pub number_cost : ℕ → ℕ
number_cost n =
    if nat_lt n 2048 || nat_le (2 ^ 64 - 2048) n then 1
    else (if nat_lt n (2 ^ 31) || nat_le (2 ^ 64 - 2 ^ 31) n then 2
    else (if nat_le n (2 ^ 40) then 4 else (if nat_le n (2 ^ 52) then 6 else 8)))

abbrev pub amount_cost : Amount → ℕ
amount_cost (amount.Temp t) = 4
amount_cost (amount.Number n) = 1 + number_cost n

-- an operation on integers: a result of fewer than 64 bits is extended, and the count of a narrow shift is reduced. Of
-- 64 bits it costs what its result as a constant may
abbrev pub operation_cost : IntKind → ℕ
operation_cost int.I64 = 11
operation_cost int.U64 = 11
operation_cost int.I32 = 12
operation_cost int.U32 = 12
operation_cost k = 13

abbrev pub is_wide : IntKind → Bool
is_wide int.I64 = true
is_wide int.U64 = true
is_wide k = false

-- a conversion, from a kind to a kind: to 64 bits from 64, and to a capability, what its result as a constant may cost
abbrev pub conversion_cost : TacKind → TacKind → ℕ
conversion_cost (kind.Int j) (kind.Int k) = if is_wide j && is_wide k then 11 else 8
conversion_cost (kind.Cap signed) (kind.Int k) = if is_wide k then 7 else 8
conversion_cost old (kind.Cap signed) = 11

-- a `_Bool` is reduced to 0 or 1
abbrev pub load_cost : TacKind → ℕ
load_cost (kind.Int int.Bool) = 8
load_cost k = 7

-- so many arguments or parameters: eight have registers, and each of the others a place in the frame
abbrev pub places_cost : ℕ → ℕ
places_cost n = 3 * min n 8 + 6 * (n - 8)

abbrev pub service_cost : LibOp → ℕ
service_cost lib.PutChar = 9
service_cost lib.GetChar = 6
service_cost lib.Malloc = 34
service_cost lib.Exit = 6

-- The table
abbrev pub cost : TacInstr → ℕ
cost (instr.Const to k v) = 3 + number_cost v
cost (instr.Copy to from) = 6
cost (instr.Int op k to a b) = operation_cost k
cost (instr.Cmp op k to a b) = 11
cost (instr.Convert to from old new) = conversion_cost old new
cost (instr.Cap op to a b) = 10
cost (instr.Offset to base by) = 6 + amount_cost by
cost (instr.Narrow to base length exact) = 6 + amount_cost length
cost (instr.Load to from k pos) = load_cost k
cost (instr.Store at v k pos) = 7
cost (instr.Local to var) = 9
cost (instr.Global to number literal) = 6
cost (instr.Function to fun) = 6
cost (instr.Zero var) = 10
cost (instr.CopyUnits from to bytes unit from_pos to_pos) = 14
cost (instr.Label l) = 0
cost (instr.Jump l) = 1
cost (instr.Branch on when l) = 5
cost (instr.Call to fun args) = 7 + places_cost (length args)
cost (instr.CallValue to v of args pos) = 7 + places_cost (length args)
cost (instr.Lib op to args) = service_cost op
cost instr.Turn = 0
cost (instr.Return v) = 24

-- a prologue, by the number of parameters
abbrev pub prologue_cost : ℕ → ℕ
prologue_cost params = 64 + places_cost params

abbrev pub function_cost : TacFun → ℕ
function_cost f = prologue_cost f.params + sum_by cost f.code

-- ---- the arguments past eight, which stand in the caller's frame

abbrev pub outgoing_by : TacInstr → ℕ
outgoing_by (instr.Call to fun args) = length args - 8
outgoing_by (instr.CallValue to v of args pos) = length args - 8
outgoing_by i = 0

-- those of the largest call
abbrev pub outgoing : List TacInstr → ℕ
outgoing [] = 0
outgoing (i ∷ is) = max (outgoing_by i) (outgoing is)
