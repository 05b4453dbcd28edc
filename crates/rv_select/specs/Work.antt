-- How an operation is computed, an intrinsic, and what an amount is.
use Rattle.std.specs.Prelude.{◌≡◌, ℤ, Bool, true, false}
use Rattle.ck_int.specs.declared.kinds.CmpOp.{CmpOp}
use Rattle.ck_int.specs.declared.kinds.CmpOp.TheVariants as test
use Rattle.cap_machine.specs.Integers.{extended}
use Rattle.rv_instr.specs.Range.{FitsBits}
use Rattle.tac_ir.specs.declared.code.Amount.{Amount}
use Rattle.tac_ir.specs.declared.code.Amount.TheVariants as amount
use Rattle.select_words.specs.Capabilities as words
use Rattle.select_words.specs.Emitted.{IsNumber}
use Rattle.select_words.specs.Selecting.{Selecting}
use Rattle.rv_emit.specs.Growing.{seals}
use Rattle.rv_select.specs.declared.memory.Intrinsic.{Intrinsic}
use Rattle.rv_select.specs.declared.memory.Intrinsic.TheVariants.{OfOne, OfTwo}
use Rattle.rv_select.specs.declared.operations.Work.{Work}
use Rattle.rv_select.specs.declared.operations.Work.TheVariants.{Registers, Immediate, Shift}

-- 12 bits hold its number
abbrev pub WorkFits : Work → Type 0
WorkFits (Registers op a b) = Unit {0}
WorkFits (Immediate op a number) = FitsBits 12 number
WorkFits (Shift op a count) = Unit {0}

-- an amount that is a number
abbrev pub IsAmount : Selecting → Amount → ℤ → Type 0
IsAmount s (amount.Temp t) z = IsNumber s t (extended z)
IsAmount s (amount.Number n) z = extended z ≡ n

-- no intrinsic makes a sentry
abbrev pub NeverSeals : Intrinsic → Type 0
NeverSeals (OfOne op) = seals op ≡ false
NeverSeals (OfTwo op) = Unit {0}

-- an intrinsic is one of the form of words
abbrev pub IsOfForm : words.Intrinsic → Intrinsic → Type 0
IsOfForm (words.One op) (OfOne o) = o ≡ op
IsOfForm (words.Two op) (OfTwo o) = o ≡ op
IsOfForm form i = ⊥

-- ---- comparisons

-- those of equality, and those with a number that have a form of their own
abbrev pub is_equality : CmpOp → Bool
is_equality test.Eq = true
is_equality test.Ne = true
is_equality o = false

abbrev pub takes_number : CmpOp → Bool
takes_number test.Gt = false
takes_number test.Le = false
takes_number o = true
