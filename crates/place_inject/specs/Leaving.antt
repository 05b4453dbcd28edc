-- A function returns to its caller, in the whole injection.
use Rattle.std.specs.Prelude.{◌≡◌, ℕ, ◌+◌, ◌<◌, List, [], ◌∷◌, ◌++◌, length, Some, slice_get}
use Rattle.cap_machine.specs.declared.machine.Machine.{Machine}
use Rattle.cap_machine.specs.State.{register}
use Rattle.cheri_c_sem.specs.Calls.{end_locals}
use Rattle.cheri_c_sem.specs.Modes.{Store, operations, placed_plan}
use Rattle.cheri_c_sem.specs.Steps.{State}
use Rattle.obj_mem.specs.Legal.{ObjectNeed}
use Rattle.reg_alloc.specs.Placed.{IsKept}
use Rattle.tac_ir.specs.Meaning.{Caller}
use Rattle.tac_ir.specs.declared.code.TacInstr.{TacInstr}
use Rattle.place_inject.specs.Frames.{Setting, Point, Waits, IsLive, locals_by, behind_return, stack_pointer}
use Rattle.place_inject.specs.Fits.{Fits, registers_in}
use Rattle.place_inject.specs.Homes.{CallersKeep}

-- ---- which objects are older than a call

-- those of its callers
abbrev pub CallersAreOlder : Setting → (first : ℕ) → List Caller → Type 0
CallersAreOlder s first [] = Unit {0}
CallersAreOlder s first (c ∷ cs) =
    ((n : ℕ) (need : ObjectNeed) → slice_get (locals_by (slice_get s.needs.functions c.fun)) n ≡ Some need
    → c.first + n < first) × CallersAreOlder s first cs

-- and the globals and literals: they have lower numbers than the call's own, the first of which has this one
pub record OthersAreOlder (s : Setting) (first : ℕ) (cs : List Caller) : Type 0 where
  pub globals : (k base : ℕ) → slice_get (s.map.globals ++ s.map.literals) k ≡ Some base → k < first
  pub callers : CallersAreOlder s first cs

-- ---- the return

-- a caller, at some instructions that it goes on with
abbrev pub caller_at : Caller → List Caller → List TacInstr → Point
caller_at c cs rest = record { running = record { fun = c.fun; callers = cs }; rest = rest }

-- the callee, at some instructions of its
abbrev pub callee_at : (fun : ℕ) → Caller → List Caller → List TacInstr → Point
callee_at fun c cs rest = record { running = record { fun = fun; callers = c ∷ cs }; rest = rest }

-- the caller's temps are as they were, and the callee's locals, of these lengths, have ended
abbrev pub returned : Setting → List ℕ → Caller → State Store → State Store
returned s lengths c t = record t {
  vars = c.vars;
  first = c.first;
  mem = end_locals (operations (placed_plan s.map)) t.mem t.first lengths;
  frame = c.frame;
}

-- c2 is the caller's stack, c3 is as it was, each register that functions keep is as the frame and the registers say,
-- and memory is as it was
pub record IsBack (s : Setting) (fun : ℕ) (c : Caller) (t : State Store) (m after : Machine) : Type 0 where
  pub registers : length after.regs ≡ 32
  pub memory : after.mem ≡ m.mem
  pub stack : register after 2 ≡ stack_pointer s c.frame
  pub table : register after 3 ≡ register m 3
  pub kept : (r : ℕ) → IsKept r → Some (register after r) ≡ behind_return s m.mem fun t.frame (registers_in m) r

-- The machine stands for the caller's state at each place at which no temp is to be read but those that wait for the
-- return
abbrev pub LeavesFit : Type 0
LeavesFit = (s : Setting) (fun : ℕ) (c : Caller) (cs : List Caller) (left : List TacInstr) (t : State Store)
    (m : Machine)
    → Fits s (Some (callee_at fun c cs left)) t m → CallersKeep s (c ∷ cs) → OthersAreOlder s t.first (c ∷ cs)
    → (lengths : List ℕ) → length lengths ≡ length (locals_by (slice_get s.needs.functions fun))
    → (rest : List TacInstr) → ((temp : ℕ) → IsLive s (caller_at c cs rest) temp → Waits s c temp)
    → (after : Machine) → IsBack s fun c t m after
    → Fits s (Some (caller_at c cs rest)) (returned s lengths c t) after
