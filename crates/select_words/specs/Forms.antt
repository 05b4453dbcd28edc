-- The form that the words of most instructions have: operands come to registers, words compute of them, and the result
-- goes home.
use Rattle.std.specs.Prelude.{◌≡◌, ℕ, ◌^◌, ◌<◌, ◌≤◌, List, ◌++◌, length}
use Rattle.rv_instr.specs.declared.instr.Instr.{Instr}
use Rattle.tac_ir.specs.Costs.{number_cost}
use Rattle.tac_ir.specs.declared.code.Amount.{Amount}
use Rattle.tac_ir.specs.declared.code.Amount.TheVariants as amount
use Rattle.select_words.specs.Numbers.{MakesNumber}
use Rattle.select_words.specs.Emitted.{Operand, Target, Keep}
use Rattle.select_words.specs.Selecting.{Selecting}

-- Words that compute in the register for a temp, which then goes home
pub record Makes (s : Selecting) (to : ℕ) (Work : (r : ℕ) → List Instr → Type 0) (words : List Instr) : Type 0 where
  pub r : ℕ
  pub target : Target s to r
  pub work : List Instr
  pub works : Work r work
  pub keep : List Instr
  pub kept : Keep s to r keep
  pub are : words ≡ work ++ keep

-- They compute of an operand
pub record OfOne (s : Selecting) (to from : ℕ) (Work : (r a : ℕ) → List Instr → Type 0)
    (words : List Instr) : Type 0 where
  pub a : ℕ
  pub finds : List Instr
  pub found : Operand s from 28 finds a
  pub then_on : List Instr
  pub makes : Makes s to (λ r. Work r a) then_on
  pub are : words ≡ finds ++ then_on

-- They compute of an operand and of what other words bring to a second register
pub record OfTwo (s : Selecting) (to from : ℕ) (Second : List Instr → ℕ → Type 0) (Work : (r a b : ℕ) → List Instr
    → Type 0)
    (words : List Instr) : Type 0 where
  pub a : ℕ
  pub b : ℕ
  pub finds : List Instr
  pub found : Operand s from 28 finds a
  pub others : List Instr
  pub second : Second others b
  pub then_on : List Instr
  pub makes : Makes s to (λ r. Work r a b) then_on
  pub are : words ≡ finds ++ (others ++ then_on)

-- a second operand
abbrev pub Other : Selecting → (t : ℕ) → List Instr → ℕ → Type 0
Other s t words b = Operand s t 29 words b

-- an amount in the second scratch register, or where its temp is found
pub data Amounts (s : Selecting) (by : Amount) (words : List Instr) (b : ℕ) : Type 0 where
  Temps : (t : ℕ) → by ≡ amount.Temp t → Other s t words b → Amounts s by words b
  Numbers : (n : ℕ) → by ≡ amount.Number n → n < 2 ^ 64 → MakesNumber 29 n words → length words ≤ number_cost n → b ≡ 29
      → Amounts s by words b
