-- Containment: what holds of each state of a run whose text is contained, from its first state up to its end.
use Rattle.std.specs.Prelude.{◌≡◌, ℕ, ◌-◌, ◌%◌, ◌^◌, ◌<◌, ◌≤◌, ◌⊎◌, true, false, List, length, slice_index, Option}
use Rattle.std.specs.Prelude.{Some, Contains, IfSome}
use Rattle.ck_base.specs.World.{World, GivesBytes}
use Rattle.ck_base.specs.Runs.{Act, Goes, Puts, Reads, Ends, outcome, state_and_ending}
use Rattle.cap_ops.specs.declared.capability.Cap.{Cap}
use Rattle.cap_ops.specs.declared.capability.TheConstants.{UNSEALED, SENTRY, EXECUTE}
use Rattle.cap_ops.specs.Capability.{base, top, permits, lacks}
use Rattle.rv_instr.specs.declared.instr.Instr.TheVariants.{Ecall}
use Rattle.tag_mem.specs.Areas.{Area, IsMemory, byte_at, tag_at}
use Rattle.tag_mem.specs.Memory.{capability_at}
use Rattle.cap_machine.specs.declared.machine.Machine.{Machine}
use Rattle.cap_machine.specs.declared.end.End.{End}
use Rattle.cap_machine.specs.declared.end.End.TheVariants.{Break, Illegal}
use Rattle.cap_machine.specs.State.{register, integer, counter}
use Rattle.cap_machine.specs.Rows.{from_memory}
use Rattle.cap_machine.specs.Step.{act, limits}
use Rattle.cap_machine.specs.ContainedText.{Text, end_of, LiesWell, Stands, IsPlace, IsReturn, IsContainedText}

-- ---- capabilities

-- the counter: an unsealed capability that executes exactly the text, at a place of it
pub record IsCounter (t : Text) (c : Cap) : Type 0 where
  pub tagged : c.tag ≡ true
  pub unsealed : c.fields.otype ≡ UNSEALED
  pub execute : permits c.fields.perms EXECUTE ≡ true
  pub low : base c ≡ t.base
  pub high : top c ≡ end_of t
  pub place : IsPlace t c.fields.address

-- a sentry with the text's bounds at an entry place or a return place
pub record IsTextSentry (t : Text) (c : Cap) : Type 0 where
  pub sentry : c.fields.otype ≡ SENTRY
  pub execute : permits c.fields.perms EXECUTE ≡ true
  pub low : base c ≡ t.base
  pub high : top c ≡ end_of t
  pub place : Contains t.entries c.fields.address ⊎ IsReturn t c.fields.address

-- no Execute, and bounds that don't meet the text
pub record IsApart (t : Text) (c : Cap) : Type 0 where
  pub no_execute : lacks c.fields.perms EXECUTE ≡ true
  pub outside : (x : ℕ) → base c ≤ x → x < top c → t.base ≤ x → x < end_of t → ⊥

-- what a register or a granule may hold: with a tag one of these two, and without one any capability
pub record IsConfined (t : Text) (c : Cap) : Type 0 where
  pub address : c.fields.address < 2 ^ 64
  pub tagged : c.tag ≡ true → IsTextSentry t c ⊎ IsApart t c

-- ---- states

pub record IsContainedRegisters (t : Text) (m : Machine) : Type 0 where
  pub count : length m.regs ≡ 32
  pub held : (r : ℕ) → IsConfined t (register m r)

-- the text's bytes are as loaded, none of its granules is tagged, and each tagged granule holds what it may
pub record IsContainedMemory (t : Text) (mem : List Area) : Type 0 where
  pub memory : IsMemory mem
  pub text : (x : ℕ) → t.base ≤ x → x < end_of t → byte_at mem x ≡ Some (slice_index t.bytes (x - t.base))
  pub untagged : (x : ℕ) → t.base ≤ x → x < end_of t → tag_at mem x ≡ Some false
  pub held : (x bits : ℕ) → x % 16 ≡ 0 → capability_at mem x ≡ Some (bits, true) →
      IsConfined t (record { tag = true; fields = from_memory bits })

-- the number of an environment call
abbrev pub IsService : ℕ → Type 0
IsService n = (n ≡ 1) ⊎ ((n ≡ 2) ⊎ (n ≡ 3))

pub record IsContained (t : Text) (m : Machine) : Type 0 where
  pub lies : LiesWell t
  pub pc : IsCounter t m.pc
  pub registers : IsContainedRegisters t m
  pub memory : IsContainedMemory t m.mem
  pub service : Stands t (counter m) Ecall → IsService (integer m 17)

-- ---- steps and runs

-- neither Illegal nor Break
abbrev pub IsProper : End → Type 0
IsProper (Illegal at) = ⊥
IsProper (Break at) = ⊥
IsProper e = Unit {0}

-- the act leads to a contained state, whatever byte is read, or it ends properly
abbrev pub Keeps : Text → Act Machine End → Type 0
Keeps t (Goes m) = IsContained t m
Keeps t (Puts b m) = IsContained t m
Keeps t (Reads to) = (o : Option ℕ) → IfSome o (λ b. b < 256) → IsContained t (to o)
Keeps t (Ends e) = IsProper e

-- the machine is left in a contained state, and an end, where there is one, is proper
pub record LeavesContained (t : Text) (m : Machine) (answer : Option End) : Type 0 where
  pub state : IsContained t m
  pub proper : IfSome answer IsProper

-- a contained state of a contained text stays one
abbrev pub StaysContained : Machine → Machine → Option End → Type 0
StaysContained old new answer = (t : Text) → IsContainedText t → IsContained t old → LeavesContained t new answer

-- each run from this state, of any number of steps, in any world that gives bytes
abbrev pub RunsContained : Text → Machine → Type 0
RunsContained t m = (w : World) → GivesBytes w → (steps : ℕ) →
    let last = (outcome limits act state_and_ending m steps w).ending in LeavesContained t last.0 (Some last.1)
