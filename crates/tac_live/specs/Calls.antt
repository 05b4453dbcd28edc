-- The calls of a function.
use Rattle.std.specs.Prelude.{◌≡◌, ℕ, ◌-◌, Bool, true, false, List, [], ◌∷◌, Contains, length, max}
use Rattle.std.specs.List.Sorted.{IsStrictlyIncreasing}
use Rattle.tac_ir.specs.Intervals.{IsAt}
use Rattle.tac_ir.specs.declared.code.TacInstr.{TacInstr}
use Rattle.tac_ir.specs.declared.code.TacInstr.TheVariants as instr

-- a call of a function, one of the library among them
abbrev pub is_call : TacInstr → Bool
is_call (instr.Call to fun args) = true
is_call (instr.CallValue to v of args pos) = true
is_call (instr.Lib op to args) = true
is_call i = false

abbrev pub IsCallAt : List TacInstr → ℕ → Type 0
IsCallAt code n = (i : TacInstr) × IsAt code n i × (is_call i ≡ true)

-- the numbers of the calls, ascending
pub record AreCalls (code : List TacInstr) (calls : List ℕ) : Type 0 where
  pub ascending : IsStrictlyIncreasing calls
  pub sound : (n : ℕ) → Contains calls n → IsCallAt code n
  pub complete : (n : ℕ) → IsCallAt code n → Contains calls n

-- the arguments of a call
abbrev pub arguments : TacInstr → List ℕ
arguments (instr.Call to fun args) = args
arguments (instr.CallValue to v of args pos) = args
arguments (instr.Lib op to args) = args
arguments i = []

-- the argument places past eight that an instruction uses, and the most that one of some code uses; a call of the
-- library has at most one argument
abbrev pub places_past_eight : TacInstr → ℕ
places_past_eight (instr.Call to fun args) = length args - 8
places_past_eight (instr.CallValue to v of args pos) = length args - 8
places_past_eight i = 0

abbrev pub most_places : List TacInstr → ℕ
most_places [] = 0
most_places (i ∷ is) = max (places_past_eight i) (most_places is)
