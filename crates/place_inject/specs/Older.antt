-- The objects of callers, globals and literals have lower numbers than the locals of the call that is entered.
use Rattle.std.specs.Prelude.{ℕ, List, [], ◌∷◌, length, Option, Some, None}
use Rattle.cap_machine.specs.declared.machine.Machine.{Machine}
use Rattle.cheri_c_sem.specs.Modes.{Store}
use Rattle.cheri_c_sem.specs.Steps.{State}
use Rattle.obj_mem.specs.Legal.{IsLegal}
use Rattle.tac_ir.specs.declared.code.TacInstr.{TacInstr}
use Rattle.place_inject.specs.Frames.{Setting, Point}
use Rattle.place_inject.specs.Fits.{Fits}
use Rattle.place_inject.specs.Entering.{caller_of}
use Rattle.place_inject.specs.Leaving.{OthersAreOlder}

-- At a call, and at the entry of the first function
abbrev pub OthersAreOlderAtEntries : Type 0
OthersAreOlderAtEntries = (s : Setting) → IsLegal s.needs s.map → (p : Point) (t : State Store) (m : Machine)
    → Fits s (Some p) t m → (rest : List TacInstr) (to : Option ℕ)
    → OthersAreOlder s (length t.mem.memory.shapes) (caller_of p.running rest to t ∷ p.running.callers)

abbrev pub GlobalsAreOlderAtStart : Type 0
GlobalsAreOlderAtStart = (s : Setting) → IsLegal s.needs s.map → (t : State Store) (m : Machine) → Fits s None t m
    → OthersAreOlder s (length t.mem.memory.shapes) []
