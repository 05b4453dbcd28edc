-- When the state of the machine stands for that of three-address code over separate objects.
use Rattle.std.specs.Prelude.{◌≡◌, ℕ, ◌-◌, ◌<◌, pos, length, Option, Some, None, Result, Ok, Err, slice_get}
use Rattle.tag_mem.specs.Areas.{is_inside}
use Rattle.cap_machine.specs.declared.machine.Machine.{Machine}
use Rattle.cap_machine.specs.declared.end.Step.{Step}
use Rattle.cap_machine.specs.declared.end.Step.TheVariants.{Next}
use Rattle.cap_machine.specs.Integers.{stored_bytes}
use Rattle.cap_machine.specs.Rows.{trap, store_row}
use Rattle.cap_machine.specs.State.{register}
use Rattle.rv_instr.specs.declared.ops.StoreOp.{StoreOp}
use Rattle.obj_mem.specs.declared.ending.Fault.{Fault}
use Rattle.obj_mem.specs.declared.ending.Fault.TheVariants as F
use Rattle.obj_mem.specs.Access.{store}
use Rattle.obj_mem.specs.Legal.{IsLegal}
use Rattle.obj_mem.specs.Objects.{Memory, Placed, base_in}
use Rattle.obj_mem.specs.Values.{Value, capability_of}
use Rattle.obj_mem.specs.Table.{addresses_of}
use Rattle.cheri_c_sem.specs.Modes.{Store, with_memory}
use Rattle.cheri_c_sem.specs.Steps.{State}
use Rattle.placement.specs.Memories.{IsClear}
use Rattle.reg_alloc.specs.declared.places.Home.TheVariants.{Register}
use Rattle.place_inject.specs.Values.{IsKnown}
use Rattle.place_inject.specs.Steps.{is_integer, stores_integer}
use Rattle.place_inject.specs.Objects.{ObjectsFit}
use Rattle.place_inject.specs.Parts.{Unchanged, HeapFits, TableFits}
use Rattle.place_inject.specs.Frames.{Setting, Point, IsLive, Registers, functions_of, stack_top, stack_pointer}
use Rattle.place_inject.specs.Frames.{homes_of, slots_from, GlobalsFit, LocalsFit, HomesFit, FramesFit}

-- what the registers of a machine hold
abbrev pub registers_in : Machine → Registers
registers_in m r = Some (register m r)

-- c2 is the stack at the address of the newest frame, or at its top before the first, and c3 is as loaded. No object
-- has a byte of the stack below
pub record StackFits (s : Setting) (t : State Store) (m : Machine) : Type 0 where
  pub stack : register m 2 ≡ stack_pointer s t.frame
  pub table : register m 3 ≡ register s.loaded 3
  pub clear : IsClear t.mem.memory.shapes s.map.stack.0 (t.frame - s.map.stack.0)

-- The calls in progress, of which there is none before the first function is entered
abbrev pub CallsFit : Setting → Option Point → State Store → Machine → Type 0
CallsFit s None t m = t.frame ≡ stack_top s
CallsFit s (Some p) t m =
    LocalsFit s t.mem.memory.shapes p.running.fun t.first t.frame
    × HomesFit (functions_of s) (addresses_of s.map) t.mem.memory.shapes m.mem (registers_in m)
    (homes_of s p.running.fun) (s.numbers p.running.fun)
    (slots_from (slice_get s.map.frames p.running.fun) (homes_of s p.running.fun) t.frame) (IsLive s p) t.vars
    × FramesFit s t.mem.memory.shapes m.mem (registers_in m) p.running.fun t.first t.frame p.running.callers

-- The injection. The counter belongs to the place in the code, and what was done with the outside to the run
pub record Fits (s : Setting) (p : Option Point) (t : State Store) (m : Machine) : Type 0 where
  pub registers : length m.regs ≡ 32
  pub objects : ObjectsFit (functions_of s) (addresses_of s.map) t.mem.memory m.mem
  pub globals : GlobalsFit s t.mem.memory.shapes
  pub text : Unchanged s.map.text.0 s.map.text.1 s.loaded.mem m.mem
  pub table : TableFits s.needs s.map t.mem.heap t.mem.memory.shapes s.loaded.mem m.mem
  pub heap : HeapFits (addresses_of s.map) t.mem.heap t.mem.memory.shapes m.mem
  pub stack : StackFits s t m
  pub calls : CallsFit s p t m
  -- memory has the places that were loaded
  pub places : (x : ℕ) → is_inside m.mem x ≡ is_inside s.loaded.mem x

-- ---- stores keep it

-- By what the meaning gives. Where it traps, the machine does by the same cause, and is left as it was
abbrev pub StoreKeeps : Setting → Option Point → State Store → Machine → Result Memory Fault → Step × Machine → Type 0
StoreKeeps s p t m (Ok objects) step =
    (after : Machine) × (step ≡ (Next, after)) × Fits s p (record t { mem = with_memory t.mem objects }) after
StoreKeeps s p t m (Err (F.Cause c)) step = step ≡ trap m c
StoreKeeps s p t m (Err F.Outside) step = Unit {0}
StoreKeeps s p t m (Err (F.Unspecified r)) step = ⊥

-- A store through a value, of one, under a legal map, and the store instruction over the registers that have them
abbrev pub StoresKeepFits : Type 0
StoresKeepFits = (s : Setting) → IsLegal s.needs s.map → (p : Option Point) (t : State Store) (m : Machine)
    → Fits s p t m
    → (op : StoreOp) (from to : ℕ) (x v : Value) → stores_integer op ≡ is_integer v
    → IsKnown t.mem.memory.shapes (functions_of s) x → IsKnown t.mem.memory.shapes (functions_of s) v
    → register m to ≡ capability_of (addresses_of s.map) (base_in t.mem.memory.shapes) x
    → register m from ≡ capability_of (addresses_of s.map) (base_in t.mem.memory.shapes) v
    → StoreKeeps s p t m (store (Placed (addresses_of s.map)) t.mem.memory x (stored_bytes op) v)
    (store_row m op from to (pos 0))

-- ---- scratch registers

-- homes are in the registers up to 27
abbrev pub HomesAreUsable : Setting → Type 0
HomesAreUsable s = (fun t r : ℕ) → slice_get (homes_of s fun) t ≡ Some (Register r) → r < 28

-- It says nothing of c28 to c31 and of the counter
abbrev pub ScratchKeepsFits : Type 0
ScratchKeepsFits = (s : Setting) → HomesAreUsable s → (p : Option Point) (t : State Store) (m : Machine) → Fits s p t m
    → (after : Machine) → length after.regs ≡ 32 → after.mem ≡ m.mem
    → ((r : ℕ) → r < 28 → register after r ≡ register m r) → Fits s p t after
