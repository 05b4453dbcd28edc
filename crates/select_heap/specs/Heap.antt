-- `malloc`: what the words do that take an object from the heap.
use Rattle.std.specs.Prelude.{◌≡◌, ℕ, ◌<◌, List, Option}
use Rattle.ck_base.specs.World.{World}
use Rattle.rv_instr.specs.declared.instr.Instr.{Instr}
use Rattle.cap_machine.specs.declared.machine.Machine.{Machine}
use Rattle.c_tree.specs.declared.typed.Typed.{Typed}
use Rattle.cheri_c_sem.specs.Modes.{Store}
use Rattle.cheri_c_sem.specs.Steps.{State}
use Rattle.tac_ir.specs.Meaning.{Running}
use Rattle.tac_ir.specs.Temps.{IsIn as IsAmong, in_option}
use Rattle.tac_ir.specs.declared.code.TacInstr.{TacInstr}
use Rattle.place_inject.specs.Frames.{Setting, IsLive, homes_of}
use Rattle.place_inject.specs.Registers.{UsesOnly, CallersUseOnly}
use Rattle.place_inject.specs.Spills.{StackIsThere}
use Rattle.place_inject.specs.Tables.{TableIsThere}
use Rattle.select_words.specs.Standing.{HasAt}
use Rattle.select_words.specs.Services.{IsAside}
use Rattle.select_words.specs.Heap.{Mallocs, allocating}
use Rattle.select_runs.specs.Kinds.{AreOfKinds}
use Rattle.select_runs.specs.Operands.{IsText, IsAtPoint}
use Rattle.select_runs.specs.Results.{GoesOn, IsSelectable, before, behind, kinds_in}
use Rattle.select_runs.specs.Selecting.{selecting}

-- ---- what is asked of homes

-- the registers that these words leave alone
abbrev pub IsBeside : ℕ → Type 0
IsBeside r = IsAside r × (r ≡ 4 → ⊥) × (r < 28)

-- the temps that are to be read behind the call, but for that of the result, stand in such registers, and those of the
-- callers
pub record StandsBeside (s : Setting) (running : Running) (to : Option ℕ) (rest : List TacInstr) : Type 0 where
  pub own : UsesOnly IsBeside (homes_of s running.fun)
      (λ k. (IsAmong k (in_option to) → ⊥) × IsLive s (behind running rest) k)
  pub callers : CallersUseOnly s IsBeside running.callers

-- ---- what they do

-- The function goes on: with null, or with the pointer to a new object
abbrev pub AllocationsRun : Type 0
AllocationsRun = (to : Option ℕ) (a : ℕ) (s : Setting) (code : List Instr) → IsText s code → StackIsThere s
    → TableIsThere s → (w : World) (p : Typed) (running : Running) (rest : List TacInstr)
    → IsSelectable s p running (allocating to a) rest → StandsBeside s running to rest
    → (at : ℕ) (t : State Store) (m : Machine) → IsAtPoint s code (before running (allocating to a) rest) at t m
    → AreOfKinds (kinds_in s running) t.vars
    → (words : List Instr) → Mallocs (selecting s running.fun) a to words → HasAt code at words
    → GoesOn s code w p running (allocating to a) rest words at t m
