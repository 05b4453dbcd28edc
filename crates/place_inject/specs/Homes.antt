-- A result that comes into the register of its temp or is a number, and an operand that is one or the other.
use Rattle.std.specs.Prelude.{◌≡◌, ℕ, ◌<◌, List, [], ◌∷◌, length, Some, None, slice_get, slice_set}
use Rattle.cap_ops.specs.Capability.{null_at}
use Rattle.cap_machine.specs.declared.machine.Machine.{Machine}
use Rattle.cap_machine.specs.State.{register}
use Rattle.obj_mem.specs.Objects.{base_in}
use Rattle.obj_mem.specs.Table.{addresses_of}
use Rattle.obj_mem.specs.Values.{Value, capability_of}
use Rattle.cheri_c_sem.specs.Modes.{Store}
use Rattle.cheri_c_sem.specs.Steps.{State}
use Rattle.reg_alloc.specs.declared.places.Home.TheVariants.{Register}
use Rattle.reg_alloc.specs.Placed.{IsUsable, IsKept}
use Rattle.tac_ir.specs.declared.code.TacInstr.{TacInstr}
use Rattle.tac_ir.specs.Effects.{temp_in}
use Rattle.tac_ir.specs.Meaning.{Caller}
use Rattle.place_inject.specs.Values.{IsKnown}
use Rattle.place_inject.specs.Frames.{Setting, Point, IsLive, Waits, homes_of, functions_of}
use Rattle.place_inject.specs.Fits.{Fits, HomesAreUsable}

-- ---- what registers a result may take

-- temps of callers that are still to be read stand in slots and in registers that functions keep
abbrev pub CallersKeep : Setting → List Caller → Type 0
CallersKeep s [] = Unit {0}
CallersKeep s (c ∷ cs) =
    ((t r : ℕ) → Waits s c t → slice_get (homes_of s c.fun) t ≡ Some (Register r) → IsKept r) × CallersKeep s cs

-- A register that is a temp's home is free for it at a point: it is one for homes, no other temp that is to be read
-- from there on stands in it, and callers need it only where functions keep it
pub record HomeIsFree (s : Setting) (p : Point) (temp r : ℕ) : Type 0 where
  pub home : slice_get (homes_of s p.running.fun) temp ≡ Some (Register r)
  pub stands : s.numbers p.running.fun temp ≡ None
  pub usable : IsUsable r
  pub alone : (other : ℕ) → IsLive s p other → (other ≡ temp → ⊥)
      → slice_get (homes_of s p.running.fun) other ≡ Some (Register r) → ⊥
  pub callers : CallersKeep s p.running.callers

-- ---- a result

-- the function goes on with the rest of its code, in which no temp but the result's is to be read that wasn't before
abbrev pub onward : Point → List TacInstr → Point
onward p rest = record p { rest = rest }

abbrev pub ReadsNoMore : Setting → Point → List TacInstr → (temp : ℕ) → Type 0
ReadsNoMore s p rest temp = (other : ℕ) → IsLive s (onward p rest) other → (other ≡ temp → ⊥) → IsLive s p other

-- The register has the value's capability, memory is as it was, and so is every other register but c28 to c31
pub record HasResult (m after : Machine) (s : Setting) (t : State Store) (r : ℕ) (v : Value) : Type 0 where
  pub registers : length after.regs ≡ 32
  pub memory : after.mem ≡ m.mem
  pub result : register after r ≡ capability_of (addresses_of s.map) (base_in t.mem.memory.shapes) v
  pub others : (x : ℕ) → x < 28 → (x ≡ r → ⊥) → register after x ≡ register m x

-- A value comes into its temp and its temp's register
abbrev pub ResultsFit : Type 0
ResultsFit = (s : Setting) → HomesAreUsable s → (p : Point) (t : State Store) (m : Machine) → Fits s (Some p) t m
    → (rest : List TacInstr) (temp r : ℕ) → HomeIsFree s (onward p rest) temp r → ReadsNoMore s p rest temp
    → (v : Value) → IsKnown t.mem.memory.shapes (functions_of s) v
    → (after : Machine) → HasResult m after s t r v
    → Fits s (Some (onward p rest)) (record t { vars = slice_set t.vars temp (Some v) }) after

-- A temp that is a number gets it: nothing stands for it, and the machine does nothing
abbrev pub NumbersFit : Type 0
NumbersFit = (s : Setting) (p : Point) (t : State Store) (m : Machine) → Fits s (Some p) t m
    → (rest : List TacInstr) (temp n : ℕ) → temp < length t.vars → s.numbers p.running.fun temp ≡ Some n
    → ReadsNoMore s p rest temp
    → (v : Value) → IsKnown t.mem.memory.shapes (functions_of s) v
    → capability_of (addresses_of s.map) (base_in t.mem.memory.shapes) v ≡ null_at n
    → Fits s (Some (onward p rest)) (record t { vars = slice_set t.vars temp (Some v) }) m

-- An instruction that changes no temp is passed
abbrev pub MovesOnFit : Type 0
MovesOnFit = (s : Setting) (p : Point) (t : State Store) (m : Machine) → Fits s (Some p) t m
    → (rest : List TacInstr) → ((temp : ℕ) → IsLive s (onward p rest) temp → IsLive s p temp)
    → Fits s (Some (onward p rest)) t m

-- ---- an operand

-- A temp that is still to be read and is a number: its value's capability is null with that address
abbrev pub NumbersReadBack : Type 0
NumbersReadBack = (s : Setting) (p : Point) (t : State Store) (m : Machine) → Fits s (Some p) t m
    → (temp n : ℕ) → IsLive s p temp → s.numbers p.running.fun temp ≡ Some n
    → (capability_of (addresses_of s.map) (base_in t.mem.memory.shapes) (temp_in t temp) ≡ null_at n)
    × IsKnown t.mem.memory.shapes (functions_of s) (temp_in t temp)

-- One that stands in its home, which is a register: it has the value's capability
abbrev pub RegistersReadBack : Type 0
RegistersReadBack = (s : Setting) (p : Point) (t : State Store) (m : Machine) → Fits s (Some p) t m
    → (temp r : ℕ) → IsLive s p temp → s.numbers p.running.fun temp ≡ None
    → slice_get (homes_of s p.running.fun) temp ≡ Some (Register r)
    → (register m r ≡ capability_of (addresses_of s.map) (base_in t.mem.memory.shapes) (temp_in t temp))
    × IsKnown t.mem.memory.shapes (functions_of s) (temp_in t temp)
