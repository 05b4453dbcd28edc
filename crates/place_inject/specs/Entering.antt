-- A function is entered, in the whole injection.
use Rattle.std.specs.Prelude.{◌≡◌, ℕ, ◌+◌, ◌%◌, ◌<◌, ◌≤◌, List, [], ◌∷◌, length, map, Option, Some, None}
use Rattle.std.specs.Prelude.{slice_get}
use Rattle.cap_concentrate.specs.Rounding.{owned}
use Rattle.tag_mem.specs.Areas.{IsMemory}
use Rattle.cap_machine.specs.declared.machine.Machine.{Machine}
use Rattle.cap_machine.specs.State.{register}
use Rattle.cheri_c_sem.specs.Calls.{add_locals}
use Rattle.cheri_c_sem.specs.Modes.{Store, operations, placed_plan, frame_within}
use Rattle.cheri_c_sem.specs.Steps.{State}
use Rattle.obj_mem.specs.declared.map.Frame.{Frame}
use Rattle.obj_mem.specs.Legal.{ObjectNeed, IsLegal}
use Rattle.obj_mem.specs.Table.{addresses_of}
use Rattle.obj_mem.specs.Values.{Value}
use Rattle.placement.specs.Memories as placement
use Rattle.placement.specs.Memories.{local_at}
use Rattle.purecap_abi.specs.Saving.{IsFor, stack_at}
use Rattle.reg_alloc.specs.Placed.{IsKept}
use Rattle.tac_ir.specs.Meaning.{Caller, Running}
use Rattle.tac_ir.specs.declared.code.TacInstr.{TacInstr}
use Rattle.place_inject.specs.Objects.{SameOutside}
use Rattle.place_inject.specs.Parts.{kept_at}
use Rattle.place_inject.specs.Frames.{Setting, Point, Waits, IsLive, HomesFit, homes_of, functions_of, locals_by}
use Rattle.place_inject.specs.Frames.{slots_from, behind_return, return_sentry, stack_pointer}
use Rattle.place_inject.specs.Fits.{Fits, registers_in}
use Rattle.place_inject.specs.Homes.{CallersKeep}

-- The frame of a function holds locals of these lengths, which begin in it, past what it saves
pub record IsFrameOf (s : Setting) (fun : ℕ) (lengths : List ℕ) (frame : Frame) : Type 0 where
  pub is : slice_get s.map.frames fun ≡ Some frame
  pub for_homes : IsFor (homes_of s fun) frame
  pub holds : placement.FrameFits lengths frame
  pub aligned : (n : ℕ) → n < length lengths → local_at frame n % 16 ≡ 0
  pub past_saved : (n : ℕ) → n < length lengths → frame.saved ≤ local_at frame n
  pub inside : (n : ℕ) → n < length lengths → local_at frame n < frame.size
  pub needed : lengths ≡ map (λ (n : ObjectNeed). n.length) (locals_by (slice_get s.needs.functions fun))

-- What the prologue made, of which only the saved part of the frame changed memory: c2 is the frame, in which the link
-- and, where it keeps it, the caller's stack stand, and the registers that functions keep will be as they were
pub record HasEntered (s : Setting) (fun at above link : ℕ) (frame : Frame) (m after : Machine) : Type 0 where
  pub registers : length after.regs ≡ 32
  pub areas : IsMemory after.mem
  pub same : SameOutside at frame.saved m.mem after.mem
  pub stack : register after 2 ≡ stack_pointer s at
  pub table : register after 3 ≡ register m 3
  pub link_kept : kept_at after.mem at ≡ Some (return_sentry s link)
  pub stack_kept : (place : ℕ) → stack_at (homes_of s fun) frame ≡ Some place
      → kept_at after.mem (at + place) ≡ Some (stack_pointer s above)
  pub kept : (r : ℕ) → IsKept r → behind_return s after.mem fun at (registers_in after) r ≡ Some (register m r)

-- the caller, behind a call with a temp for the result
abbrev pub caller_of : Running → List TacInstr → Option ℕ → State Store → Caller
caller_of r rest to t = record {
  fun = r.fun;
  vars = t.vars;
  first = t.first;
  frame = t.frame;
  rest = rest;
  to = to;
}

-- the function's state at its entry, with these temps
abbrev pub entered : Setting → (fun at : ℕ) → List ℕ → List (Option Value) → State Store → State Store
entered s fun at lengths vars t = record t {
  vars = vars;
  first = length t.mem.memory.shapes;
  mem = add_locals (operations (placed_plan s.map)) t.mem at fun 0 lengths;
  frame = at;
}

abbrev pub entry_of : (fun : ℕ) → Caller → List Caller → List TacInstr → Point
entry_of fun c cs code = record { running = record { fun = fun; callers = c ∷ cs }; rest = code }

-- A call from a place at which the temps are to be read that wait for it. The callee's temps are in their homes
abbrev pub EntersFit : Type 0
EntersFit = (s : Setting) → IsLegal s.needs s.map → (caller : Running) (left rest : List TacInstr) (to : Option ℕ)
    (t : State Store) (m : Machine)
    → Fits s (Some (record { running = caller; rest = left })) t m
    → CallersKeep s (caller_of caller rest to t ∷ caller.callers)
    → ((temp : ℕ) → Waits s (caller_of caller rest to t) temp →
    IsLive s (record { running = caller; rest = left }) temp)
    → (fun : ℕ) (lengths : List ℕ) (frame : Frame) → IsFrameOf s fun lengths frame
    → (at : ℕ) → frame_within s.map.stack.0 t.frame (Some frame) ≡ Some at
    → (after : Machine) → HasEntered s fun at t.frame (s.back caller.fun rest) frame m after
    → (code : List TacInstr) (vars : List (Option Value))
    → HomesFit (functions_of s) (addresses_of s.map) t.mem.memory.shapes after.mem (registers_in after) (homes_of s fun)
    (s.numbers fun) (slots_from (Some frame) (homes_of s fun) at)
    (IsLive s (entry_of fun (caller_of caller rest to t) caller.callers code)) vars
    → Fits s (Some (entry_of fun (caller_of caller rest to t) caller.callers code)) (entered s fun at lengths vars t)
    after

-- The first function, which has no caller: the stack is as it was loaded, and it returns to the stub
abbrev pub first_of : (fun : ℕ) → List TacInstr → Point
first_of fun code = record { running = record { fun = fun; callers = [] }; rest = code }

abbrev pub FirstEntersFit : Type 0
FirstEntersFit = (s : Setting) → IsLegal s.needs s.map → (t : State Store) (m : Machine) → Fits s None t m
    → (fun : ℕ) (lengths : List ℕ) (frame : Frame) → IsFrameOf s fun lengths frame
    → (at : ℕ) → frame_within s.map.stack.0 t.frame (Some frame) ≡ Some at
    → (after : Machine) → HasEntered s fun at t.frame s.stub frame m after
    → (code : List TacInstr) (vars : List (Option Value))
    → HomesFit (functions_of s) (addresses_of s.map) t.mem.memory.shapes after.mem (registers_in after) (homes_of s fun)
    (s.numbers fun) (slots_from (Some frame) (homes_of s fun) at) (IsLive s (first_of fun code)) vars
    → Fits s (Some (first_of fun code)) (entered s fun at lengths vars t) after
