-- The words of calls of the library that speak with the outside: `putchar`, `getchar` and `exit`.
use Rattle.std.specs.Prelude.{◌≡◌, ◌⊎◌, ℕ, ◌<◌, pos, List, [], ◌∷◌, ◌++◌, Option, Some, None}
use Rattle.rv_instr.specs.declared.instr.Instr.{Instr}
use Rattle.rv_instr.specs.declared.instr.Instr.TheVariants.{Imm, Ecall}
use Rattle.rv_instr.specs.declared.ops.ImmOp.TheVariants.{Addi}
use Rattle.tac_ir.specs.declared.code.LibOp.TheVariants as lib
use Rattle.tac_ir.specs.declared.code.TacInstr.{TacInstr}
use Rattle.tac_ir.specs.declared.code.TacInstr.TheVariants as instr
use Rattle.select_words.specs.Emitted.{Keep}
use Rattle.select_words.specs.Words.{Bring}
use Rattle.select_words.specs.Selecting.{Selecting}

-- the environment is asked for the service of a number
abbrev pub ask : ℕ → List Instr
ask k = Imm Addi 17 0 (pos k) ∷ Ecall ∷ []

-- c10 is kept as a temp, where there is one
abbrev pub KeepSome : Selecting → Option ℕ → List Instr → Type 0
KeepSome s None words = words ≡ []
KeepSome s (Some t) words = Keep s t 10 words

-- the argument comes to c10, where there is one
abbrev pub Argument : Selecting → List ℕ → List Instr → Type 0
Argument s [] words = words ≡ []
Argument s (a ∷ more) words = Bring s a 10 words

pub record Asks (s : Selecting) (args : List ℕ) (k : ℕ) (to : Option ℕ) (words : List Instr) : Type 0 where
  pub finds : List Instr
  pub keep : List Instr
  pub found : Argument s args finds
  pub kept : KeepSome s to keep
  pub are : words ≡ finds ++ (ask k ++ keep)

-- the registers but c10 to c17, in which arguments are passed
abbrev pub IsAside : ℕ → Type 0
IsAside r = (r < 10) ⊎ (17 < r)

abbrev pub putting : Option ℕ → ℕ → TacInstr
putting to a = instr.Lib lib.PutChar to (a ∷ [])

abbrev pub taking : Option ℕ → TacInstr
taking to = instr.Lib lib.GetChar to []

abbrev pub leaving : ℕ → TacInstr
leaving a = instr.Lib lib.Exit None (a ∷ [])
