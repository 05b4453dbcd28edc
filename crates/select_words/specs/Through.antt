-- The words of calls through values.
use Rattle.std.specs.Prelude.{◌≡◌, ℕ, pos, List, [], ◌∷◌, ◌++◌, Option}
use Rattle.ck_base.specs.declared.positions.Pos.{Pos}
use Rattle.rv_instr.specs.declared.instr.Instr.{Instr}
use Rattle.rv_instr.specs.declared.instr.Instr.TheVariants.{Cjalr}
use Rattle.tac_ir.specs.declared.code.TacInstr.{TacInstr}
use Rattle.tac_ir.specs.declared.code.TacInstr.TheVariants as instr
use Rattle.select_words.specs.Passing.{ArgumentWords}
use Rattle.select_words.specs.Words.{Bring}
use Rattle.select_words.specs.Selecting.{Selecting}

-- the value comes to c31, the arguments to their places, and the jump to c31 links to the word behind it
pub record ThroughWords (s : Selecting) (v : ℕ) (args : List ℕ) (words : List Instr) : Type 0 where
  pub finds : List Instr
  pub found : Bring s v 31 finds
  pub passes : List Instr
  pub passed : ArgumentWords s args passes
  pub are : words ≡ finds ++ (passes ++ Cjalr 1 31 (pos 0) ∷ [])

abbrev pub through : Option ℕ → (v of : ℕ) → List ℕ → Pos → TacInstr
through to v of args source = instr.CallValue to v of args source
