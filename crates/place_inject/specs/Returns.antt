-- What a return leaves of the stack.
use Rattle.std.specs.Prelude.{◌≡◌, ℕ, ◌-◌, List, [], ◌∷◌, length, Some, slice_get}
use Rattle.cap_machine.specs.declared.machine.Machine.{Machine}
use Rattle.cheri_c_sem.specs.Calls.{end_locals}
use Rattle.cheri_c_sem.specs.Modes.{Store, operations, placed_plan}
use Rattle.cheri_c_sem.specs.Steps.{State}
use Rattle.placement.specs.Memories.{IsClear}
use Rattle.tac_ir.specs.Meaning.{Caller}
use Rattle.place_inject.specs.Frames.{Setting, Point, locals_by, stack_top}
use Rattle.place_inject.specs.Fits.{Fits}

-- the address that the newest frame lies below: its caller's frame, or the stack's top
abbrev pub above_newest : Setting → List Caller → ℕ
above_newest s [] = stack_top s
above_newest s (c ∷ cs) = c.frame

-- The locals of the function that runs end, as many as the map was made for: then no object has a byte below its
-- caller's frame
abbrev pub ReturnsClear : Type 0
ReturnsClear = (s : Setting) (p : Point) (t : State Store) (m : Machine) → Fits s (Some p) t m
    → (lengths : List ℕ) → length lengths ≡ length (locals_by (slice_get s.needs.functions p.running.fun))
    → IsClear (end_locals (operations (placed_plan s.map)) t.mem t.first lengths).memory.shapes s.map.stack.0
    (above_newest s p.running.callers - s.map.stack.0)
