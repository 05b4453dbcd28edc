-- No two things that a program keeps have a byte in common.
use Rattle.std.specs.Prelude.{◌≡◌, ℕ, List, [], ◌∷◌, Option, Some, None, slice_get}
use Rattle.cap_machine.specs.declared.machine.Machine.{Machine}
use Rattle.obj_mem.specs.declared.map.Frame.{Frame}
use Rattle.obj_mem.specs.Agreement.{IsNotReturned}
use Rattle.obj_mem.specs.Legal.{Apart}
use Rattle.obj_mem.specs.Objects.{Shape}
use Rattle.cheri_c_sem.specs.Modes.{Store}
use Rattle.cheri_c_sem.specs.Steps.{State}
use Rattle.placement.specs.Memories.{IsClear}
use Rattle.tac_ir.specs.Meaning.{Caller}
use Rattle.place_inject.specs.Frames.{Setting, Point}
use Rattle.place_inject.specs.Fits.{Fits}

-- no object has a byte of the saved part of a function's frame
abbrev pub SavedIsClear : Setting → List Shape → (fun at : ℕ) → Type 0
SavedIsClear s shapes fun at = (f : Frame) → slice_get s.map.frames fun ≡ Some f → IsClear shapes at f.saved

-- of the frames of the calls in progress
abbrev pub AllSavedAreClear : Setting → List Shape → (fun at : ℕ) → List Caller → Type 0
AllSavedAreClear s shapes fun at [] = SavedIsClear s shapes fun at
AllSavedAreClear s shapes fun at (c ∷ cs) = SavedIsClear s shapes fun at × AllSavedAreClear s shapes c.fun c.frame cs

abbrev pub FramesAreClear : Setting → List Shape → Option Point → State Store → Type 0
FramesAreClear s shapes None t = Unit {0}
FramesAreClear s shapes (Some p) t = AllSavedAreClear s shapes p.running.fun t.frame p.running.callers

-- Extents are owned lengths, padding included; nothing is said of the locals of functions that have returned
pub record ExtentsAreApart (s : Setting) (shapes : List Shape) (p : Option Point) (t : State Store) : Type 0 where
  pub objects : (j k : ℕ) (g h : Shape) → slice_get shapes j ≡ Some g → slice_get shapes k ≡ Some h → (j ≡ k → ⊥)
      → IsNotReturned g.life → IsNotReturned h.life → Apart g.base g.owned h.base h.owned
  pub text : (k : ℕ) (g : Shape) → slice_get shapes k ≡ Some g → Apart g.base g.owned s.map.text.0 s.map.text.1
  pub table : IsClear shapes s.map.table.0 s.map.table.1
  pub frames : FramesAreClear s shapes p t

-- In each state that the injection relates
abbrev pub ExtentsAreApartWhereFits : Type 0
ExtentsAreApartWhereFits = (s : Setting) (p : Option Point) (t : State Store) (m : Machine) → Fits s p t m
    → ExtentsAreApart s t.mem.memory.shapes p t
