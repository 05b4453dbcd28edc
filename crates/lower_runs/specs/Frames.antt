-- What entering a function does to memory: its objects come to be in a frame.
use Rattle.std.specs.Prelude.{◌≡◌, ℕ, ◌+◌, ◌%◌, ◌≤◌, List, length, Some, slice_get}
use Rattle.cap_concentrate.specs.Rounding.{alignment}
use Rattle.obj_mem.specs.declared.map.Map.{Map}
use Rattle.obj_mem.specs.Legal.{ObjectNeed, FunctionNeed, Needs, alignment_of, IsLegal}
use Rattle.cheri_c_sem.specs.Calls.{add_locals}
use Rattle.cheri_c_sem.specs.Modes.{Store, operations, placed_plan}
use Rattle.cheri_c_sem.specs.Operations.{Operations}
use Rattle.lower_runs.specs.States.{IsOnward}

-- the objects of functions have the lengths that their needs say, and are aligned as these lengths ask
pub record AreNeeded (needs : Needs) (objects : ℕ → List ℕ) : Type 0 where
  pub needed : (f n long : ℕ) (need : FunctionNeed) → slice_get needs.functions f ≡ Some need →
      slice_get (objects f) n ≡ Some long → (o : ObjectNeed) × (slice_get need.locals n ≡ Some o) ×
      (o.length ≡ long) × (alignment_of o % alignment o.length ≡ 0)

-- A frame is below the one that it was entered from; with a function's objects in it memory is as sound, and has these
-- beside the older ones
pub record HasFrames (ops : Operations Store) (objects : ℕ → List ℕ) : Type 0 where
  pub below : (f above frame : ℕ) → ops.enter f above ≡ Some frame → frame ≤ above
  pub onward : (m : Store) (f above frame : ℕ) → above ≤ ops.stack_top → ops.enter f above ≡ Some frame →
      IsOnward ops m (add_locals ops m frame f 0 (objects f))
  pub count : (m : Store) (f frame : ℕ) →
      ops.count (add_locals ops m frame f 0 (objects f)) ≡ ops.count m + length (objects f)

-- Frames under a legal map are such
abbrev pub FramesAreLegal : Type 0
FramesAreLegal = (needs : Needs) (m : Map) (objects : ℕ → List ℕ) → IsLegal needs m → AreNeeded needs objects →
    HasFrames (operations (placed_plan m)) objects
