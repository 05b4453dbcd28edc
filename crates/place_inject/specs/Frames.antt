-- Where the values of the calls in progress are: each function's temps in their homes, and in its frame what it saved.
use Rattle.std.specs.Prelude.{◌≡◌, ◌⊎◌, ℕ, ◌+◌, ◌-◌, ◌*◌, ◌<◌, ◌≤◌, ◌%◌, ◌==◌, List, [], ◌∷◌, ◌++◌, length, position}
use Rattle.std.specs.Prelude.{Option, Some, None, slice_get, slice_index_or}
use Rattle.std.specs.Option.{option_map}
use Rattle.cap_ops.specs.declared.capability.Cap.{Cap}
use Rattle.cap_ops.specs.declared.capability.TheConstants.{UNSEALED, SENTRY}
use Rattle.cap_ops.specs.Bounded.{bounded}
use Rattle.cap_ops.specs.Capability.{null_at}
use Rattle.cap_ops.specs.Permissions.{data_permissions, code_permissions}
use Rattle.tag_mem.specs.Areas.{Area}
use Rattle.cap_machine.specs.declared.machine.Machine.{Machine}
use Rattle.obj_mem.specs.declared.map.Frame.{Frame}
use Rattle.obj_mem.specs.declared.map.Map.{Map}
use Rattle.obj_mem.specs.Values.{Value, Addresses, capability_of}
use Rattle.obj_mem.specs.Objects.{Shape, base_in}
use Rattle.obj_mem.specs.Agreement.{IsNotReturned}
use Rattle.obj_mem.specs.Legal.{Apart, ObjectNeed, FunctionNeed, Needs}
use Rattle.obj_mem.specs.Table.{addresses_of}
use Rattle.cheri_c_sem.specs.Modes.{frame_within, local_offset}
use Rattle.placement.specs.Memories.{IsClear}
use Rattle.reg_alloc.specs.declared.places.Home.{Home}
use Rattle.reg_alloc.specs.declared.places.Home.TheVariants.{Register, Slot}
use Rattle.purecap_abi.specs.Saving.{kept_homes, IsFor, registers_at, stack_at, slots_at}
use Rattle.tac_ir.specs.declared.code.Tac.{Tac}
use Rattle.tac_ir.specs.declared.code.TacInstr.{TacInstr}
use Rattle.tac_ir.specs.Effects.{held}
use Rattle.tac_ir.specs.Meaning.{Caller, Running, code_of}
use Rattle.tac_ir.specs.Temps.{Awaits, reads, writes}
use Rattle.place_inject.specs.Values.{IsKnown}
use Rattle.place_inject.specs.Parts.{kept_at}

-- ---- what is the same in a whole run

-- what the program asks of its map, the map, the three-address code, the homes of each function's temps, the temps that
-- are numbers and have no home (a constant is all that they ever hold, and their uses make it), the machine as it was
-- loaded, the address at which the machine goes on with the rest of a function, and that behind the first function
pub record Setting : Type 0 where
  pub needs : Needs
  pub map : Map
  pub code : Tac
  pub homes : List (List Home)
  pub numbers : (fun temp : ℕ) → Option ℕ
  pub loaded : Machine
  pub back : (fun : ℕ) → (rest : List TacInstr) → ℕ
  pub stub : ℕ

abbrev pub homes_of : Setting → ℕ → List Home
homes_of s fun = slice_index_or s.homes fun []

abbrev pub functions_of : Setting → ℕ
functions_of s = length s.needs.functions

abbrev pub stack_top : Setting → ℕ
stack_top s = s.map.stack.0 + s.map.stack.1

-- the stack's capability at an address
abbrev pub stack_pointer : Setting → ℕ → Cap
stack_pointer s at = bounded s.map.stack.0 (stack_top s) data_permissions UNSEALED at

-- the sentry of a place in the text, to which a function returns
abbrev pub return_sentry : Setting → ℕ → Cap
return_sentry s at = bounded s.map.text.0 (s.map.text.0 + s.map.text.1) code_permissions SENTRY at

-- ---- objects of the map

abbrev pub locals_by : Option FunctionNeed → List ObjectNeed
locals_by None = []
locals_by (Some f) = f.locals

-- the object with a number is one for that need, stands at that base, and is not a local of a function that has
-- returned
pub record IsAt (shapes : List Shape) (object : ℕ) (need : ObjectNeed) (base : ℕ) : Type 0 where
  pub shape : Shape
  pub there : slice_get shapes object ≡ Some shape
  pub length : shape.length ≡ need.length
  pub base_is : shape.base ≡ base
  pub stays : IsNotReturned shape.life

-- the globals, and then the literals, at the bases that the map gives them
pub record GlobalsFit (s : Setting) (shapes : List Shape) : Type 0 where
  pub each : (k base : ℕ) (need : ObjectNeed) → slice_get (s.map.globals ++ s.map.literals) k ≡ Some base
      → slice_get (s.needs.globals ++ s.needs.literals) k ≡ Some need → IsAt shapes k need base

-- The locals of a call, the first of which has this number, at their slots in its frame
pub record LocalsFit (s : Setting) (shapes : List Shape) (fun first at : ℕ) : Type 0 where
  pub each : (n : ℕ) (need : ObjectNeed) → slice_get (locals_by (slice_get s.needs.functions fun)) n ≡ Some need
      → IsAt shapes (first + n) need (at + local_offset (slice_get s.map.frames fun) n)

-- ---- homes

-- what registers hold, or what they will hold behind returns; none where memory has no such place
abbrev pub Registers : Type 0
Registers = ℕ → Option Cap

abbrev pub slots_from : Option Frame → List Home → (at : ℕ) → ℕ
slots_from None homes at = at
slots_from (Some f) homes at = at + slots_at homes f

-- what stands in a home, where the function's slots begin at an address
abbrev pub at_home : List Area → Registers → (slots : ℕ) → Home → Option Cap
at_home memory registers slots (Register r) = registers r
at_home memory registers slots (Slot k) = kept_at memory (slots + 16 * k)

-- Each temp that is still to be read is in its home: an integer as null with that address, any other value as its
-- capability, with its tag exactly where it is a pointer or a function. One that is a number stands nowhere, and holds
-- it
pub record HomesFit (functions : ℕ) (a : Addresses) (shapes : List Shape) (memory : List Area) (registers : Registers)
    (homes : List Home) (numbers : ℕ → Option ℕ) (slots : ℕ) (live : ℕ → Type 0)
    (temps : List (Option Value)) : Type 0 where
  pub one_each : length homes ≡ length temps
  pub kept : (t : ℕ) (h : Home) → live t → numbers t ≡ None → slice_get homes t ≡ Some h
      → at_home memory registers slots h ≡ Some (capability_of a (base_in shapes) (held (slice_get temps t)))
  pub numbered : (t n : ℕ) → live t → numbers t ≡ Some n
      → capability_of a (base_in shapes) (held (slice_get temps t)) ≡ null_at n
  pub known : (t : ℕ) → live t → IsKnown shapes functions (held (slice_get temps t))

-- the temps of a call in progress that are still to be read, but for the one that gets the result
abbrev pub Waits : Setting → Caller → ℕ → Type 0
Waits s c t = (c.to ≡ Some t → ⊥) × Awaits reads writes (code_of (slice_get s.code.funs c.fun)) c.rest t

-- The function that runs, with the calls in progress, and the instructions that it goes on with
pub record Point : Type 0 where
  pub running : Running
  pub rest : List TacInstr

abbrev pub IsLive : Setting → Point → ℕ → Type 0
IsLive s p t = Awaits reads writes (code_of (slice_get s.code.funs p.running.fun)) p.rest t

-- ---- saved registers

-- where the function whose frame is there keeps a register of its caller
abbrev pub kept_place : Option Frame → List Home → (at r : ℕ) → Option ℕ
kept_place None homes at r = None
kept_place (Some f) homes at r = option_map (λ k. at + registers_at homes f + 16 * k) (position (λ x. x == r)
    (kept_homes homes))

abbrev pub from_place : List Area → Option ℕ → Option Cap → Option Cap
from_place memory None now = now
from_place memory (Some at) now = kept_at memory at

-- the registers as they will be behind the return of the function whose frame is there
abbrev pub behind_return : Setting → List Area → (fun at : ℕ) → Registers → Registers
behind_return s memory fun at registers r =
    from_place memory (kept_place (slice_get s.map.frames fun) (homes_of s fun) at r) (registers r)

-- ---- frames

-- Between two addresses lie so many objects from a number on, and no other: one that has no byte from the bottom up to
-- the first address has none up to the second. Nothing is said of locals of functions that have returned
pub record IsAlone (shapes : List Shape) (first count bottom at above : ℕ) : Type 0 where
  pub others : (i : ℕ) (g : Shape) → slice_get shapes i ≡ Some g → IsNotReturned g.life
      → Apart g.base g.owned bottom (at - bottom)
      → Apart g.base g.owned bottom (above - bottom) ⊎ ((first ≤ i) × (i < first + count))

-- The frame of a function below an address: in its saved part stand the link, by which it returns, and, where its
-- alignment asks for it, the caller's stack. No object has a byte of that part, and none but the call's own locals, the
-- first of which has this number, has one between the frame and the address
pub record FrameFits (s : Setting) (shapes : List Shape) (memory : List Area) (fun first at above link : ℕ) :
    Type 0 where
  pub frame : Frame
  pub is : slice_get s.map.frames fun ≡ Some frame
  pub for_homes : IsFor (homes_of s fun) frame
  pub below : frame_within s.map.stack.0 above (Some frame) ≡ Some at
  pub aligned : at % 16 ≡ 0
  pub link_kept : kept_at memory at ≡ Some (return_sentry s link)
  pub stack_kept : (place : ℕ) → stack_at (homes_of s fun) frame ≡ Some place
      → kept_at memory (at + place) ≡ Some (stack_pointer s above)
  pub clear : IsClear shapes at frame.saved
  pub alone : IsAlone shapes first (length (locals_by (slice_get s.needs.functions fun))) s.map.stack.0 at above

-- The frames of the calls in progress, the newest first, with the callers' objects and the homes of their temps: their
-- registers are those behind the return
abbrev pub FramesFit : Setting → List Shape → List Area → Registers → (fun first at : ℕ) → List Caller → Type 0
FramesFit s shapes memory registers fun first at [] = FrameFits s shapes memory fun first at (stack_top s) s.stub
FramesFit s shapes memory registers fun first at (c ∷ cs) =
    FrameFits s shapes memory fun first at c.frame (s.back c.fun c.rest) × LocalsFit s shapes c.fun c.first c.frame
    × HomesFit (functions_of s) (addresses_of s.map) shapes memory (behind_return s memory fun at registers)
    (homes_of s c.fun) (s.numbers c.fun) (slots_from (slice_get s.map.frames c.fun) (homes_of s c.fun) c.frame)
    (Waits s c) c.vars
    × FramesFit s shapes memory (behind_return s memory fun at registers) c.fun c.first c.frame cs
