-- What the machine may change where no temp stands that is still to be read, and what the injection doesn't look at.
use Rattle.std.specs.Prelude.{◌≡◌, ℕ, Bool, true, List, [], ◌∷◌, length, Option, Some, slice_get}
use Rattle.ck_base.specs.World.{Done}
use Rattle.cap_machine.specs.declared.machine.Machine.{Machine}
use Rattle.cap_machine.specs.State.{register}
use Rattle.cheri_c_sem.specs.Modes.{Store}
use Rattle.cheri_c_sem.specs.Steps.{State}
use Rattle.reg_alloc.specs.declared.places.Home.{Home}
use Rattle.reg_alloc.specs.declared.places.Home.TheVariants.{Register}
use Rattle.tac_ir.specs.Meaning.{Caller}
use Rattle.place_inject.specs.Frames.{Setting, Point, IsLive, Waits, homes_of}
use Rattle.place_inject.specs.Fits.{Fits}

-- the registers in which temps are that are still to be read are among some
abbrev pub UsesOnly : (Used : ℕ → Type 0) → List Home → (live : ℕ → Type 0) → Type 0
UsesOnly Used homes live = (t r : ℕ) → live t → slice_get homes t ≡ Some (Register r) → Used r

-- and those of the callers
abbrev pub CallersUseOnly : Setting → (Used : ℕ → Type 0) → List Caller → Type 0
CallersUseOnly s Used [] = Unit {0}
CallersUseOnly s Used (c ∷ cs) = UsesOnly Used (homes_of s c.fun) (Waits s c) × CallersUseOnly s Used cs

-- A step that changes nothing but the counter and registers in which no temp stands that is still to be read: the
-- others, by a test, stay
abbrev pub RegistersKeepFits : Type 0
RegistersKeepFits = (s : Setting) (stays : ℕ → Bool) → stays 2 ≡ true → stays 3 ≡ true → (p : Point) (t : State Store)
    (m : Machine)
    → Fits s (Some p) t m
    → UsesOnly (λ r. stays r ≡ true) (homes_of s p.running.fun) (IsLive s p)
    → CallersUseOnly s (λ r. stays r ≡ true) p.running.callers
    → (after : Machine) → length after.regs ≡ 32 → after.mem ≡ m.mem
    → ((r : ℕ) → stays r ≡ true → register after r ≡ register m r) → Fits s (Some p) t after

-- What was done with the outside, and how many turns are left
abbrev pub DoneKeepsFits : Type 0
DoneKeepsFits = (s : Setting) (p : Option Point) (t : State Store) (m : Machine) → Fits s p t m
    → (done : Done) (left : ℕ) → Fits s p (record t { done = done; left = left }) m
