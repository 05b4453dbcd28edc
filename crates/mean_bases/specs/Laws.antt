-- Runs under a map tell the bases of pointers as 64 bits.
use Rattle.std.specs.Prelude.{◌≡◌, ℕ, ◌+◌, ◌^◌, ◌<◌, ◌≤◌, List, Some, slice_get}
use Rattle.cap_concentrate.specs.Rounding.{owned}
use Rattle.obj_mem.specs.declared.map.Frame.{Frame}
use Rattle.obj_mem.specs.declared.map.Map.{Map}
use Rattle.cheri_c_sem.specs.Modes.{Store, operations, placed_plan, strict_plan, local_offset}
use Rattle.cheri_c_sem.specs.Tree.{Fun}
use Rattle.mean_steps.specs.Machine.{Moment, act}
use Rattle.mean_bases.specs.Bases.{HaveBases}
use Rattle.mean_bases.specs.Moments.{IsReached, IsLowMoment}

-- The text begins below 2^64, the heap ends below 2^63, and a function's locals lie in its frame
pub record HasFrames (funs : List Fun) (m : Map) : Type 0 where
  pub text : m.text.0 < 2 ^ 64
  pub heap : m.heap.0 + m.heap.1 < 2 ^ 63
  pub locals : (f k l : ℕ) (g : Fun) (r : Frame) → slice_get funs f ≡ Some g → slice_get m.frames f ≡ Some r →
      slice_get g.objects k ≡ Some l → local_offset (Some r) k + owned l ≤ r.size

-- from a moment in which bounds are low
abbrev pub PlacedRunsHaveBases : Type 0
PlacedRunsHaveBases = (m : Map) (funs : List Fun) (from to : Moment Store) → HasFrames funs m → IsLowMoment from →
    IsReached (act (operations (placed_plan m)) funs) from to →
    HaveBases (operations (placed_plan m)) to.now.mem to.values

-- the strict meaning tells no base of a pointer
abbrev pub StrictRunsHaveBases : Type 0
StrictRunsHaveBases = (t : Moment Store) → HaveBases (operations strict_plan) t.now.mem t.values
