-- The words of calls.
use Rattle.std.specs.Prelude.{◌≡◌, ℕ, ◌+◌, ◌-◌, ◌*◌, ◌^◌, ◌<◌, ℤ, pos, List, [], ◌∷◌, ◌++◌}
use Rattle.rv_instr.specs.declared.instr.Instr.{Instr}
use Rattle.rv_instr.specs.declared.instr.Instr.TheVariants.{Cjal, Cjalr}
use Rattle.select_words.specs.Capabilities.{Entry}
use Rattle.select_words.specs.Passing.{ArgumentWords}
use Rattle.select_words.specs.Selecting.{Selecting}

-- the arguments come to their places, and the jump links to the word behind it
pub record CallWords (s : Selecting) (args : List ℕ) (z : ℤ) (words : List Instr) : Type 0 where
  pub passes : List Instr
  pub passed : ArgumentWords s args passes
  pub are : words ≡ passes ++ Cjal 1 z ∷ []

-- an entry of the table comes to c31
abbrev pub FindsEntry : (entry : ℕ) → List Instr → Type 0
FindsEntry entry words = (16 * entry < 2 ^ 31 - 2048) × Entry (16 * entry) 31 words

-- the function's sentry comes from the table to c31, the arguments to their places, and the jump to c31 links to the
-- word behind it
pub record FarCallWords (s : Selecting) (fun : ℕ) (args : List ℕ) (words : List Instr) : Type 0 where
  pub finds : List Instr
  pub found : FindsEntry (s.functions + fun) finds
  pub passes : List Instr
  pub passed : ArgumentWords s args passes
  pub are : words ≡ finds ++ (passes ++ Cjalr 1 31 (pos 0) ∷ [])
