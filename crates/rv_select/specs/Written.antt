-- What a function writes to its temps.
use Rattle.std.specs.Prelude.{◌≡◌, ℕ, ◌≤◌, ℤ, List, length, Option, Some, slice_get}
use Rattle.std.specs.List.{Contains}
use Rattle.tac_ir.specs.declared.code.TacKind.{TacKind}
use Rattle.cap_machine.specs.Integers.{extended}
use Rattle.tac_ir.specs.Temps.{IsIn, writes}
use Rattle.tac_ir.specs.declared.code.TacFun.{TacFun}
use Rattle.tac_ir.specs.declared.code.TacInstr.{TacInstr}
use Rattle.tac_ir.specs.declared.code.TacInstr.TheVariants as instr
use Rattle.rv_select.specs.declared.numbers.Written.{Written}
use Rattle.rv_select.specs.declared.numbers.Written.TheVariants.{Nothing, Number, Values}

-- each instruction that writes a temp is of a kind
abbrev pub AreWriters : (TacInstr → Type 0) → List TacInstr → ℕ → Type 0
AreWriters Is code t = (i : TacInstr) → Contains code i → IsIn t (writes i) → Is i

-- a constant of a value goes to a temp
abbrev pub Gives : (t value : ℕ) → TacInstr → Type 0
Gives t value i = (k : TacKind) × (i ≡ instr.Const t k value)

-- what instructions write to a temp: a temp that they write nothing or one number to is no parameter
abbrev pub Writes : (params : ℕ) → List TacInstr → ℕ → Written → Type 0
Writes params code t Nothing = (params ≤ t) × AreWriters (λ i. ⊥) code t
Writes params code t (Number v) = (params ≤ t) × AreWriters (Gives t (extended v)) code t
Writes params code t Values = Unit {0}

abbrev pub AllWrite : (params : ℕ) → List TacInstr → List Written → Type 0
AllWrite params code written = (t : ℕ) (w : Written) → slice_get written t ≡ Some w → Writes params code t w

-- for each temp of a function
pub record AreWritten (f : TacFun) (written : List Written) : Type 0 where
  pub one_each : length written ≡ f.temps
  pub each : AllWrite f.params f.code written

-- ---- one more instruction

-- it is a constant of that value
abbrev pub IsConstant : ℕ → TacInstr → Type 0
IsConstant value (instr.Const to k v) = v ≡ value
IsConstant value i = ⊥

-- what was written to a temp and one more value, or a constant, are this
abbrev pub Joins : Written → Option ℤ → Written → Type 0
Joins before constant Nothing = ⊥
Joins before constant (Number v) = (before ≡ Nothing) × (constant ≡ Some v)
Joins before constant Values = Unit {0}
