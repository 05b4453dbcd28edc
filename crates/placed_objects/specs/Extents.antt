-- At each moment of a run under a legal map, no two things that it keeps have a byte in common.
use Rattle.std.specs.Prelude.{◌≡◌, ℕ, ◌+◌, ◌<◌, ◌≤◌, ◌⊎◌, List, [], ◌∷◌, length, map, Some, slice_get}
use Rattle.ck_base.specs.Runs.{run}
use Rattle.ck_base.specs.World.{World, nothing_done}
use Rattle.c_tree.specs.Typing.{Sound}
use Rattle.c_tree.specs.declared.typed.Typed.{Typed}
use Rattle.obj_mem.specs.Agreement.{IsNotReturned}
use Rattle.obj_mem.specs.Legal.{AreApart, IsApartFrom}
use Rattle.obj_mem.specs.Needs.{Legal}
use Rattle.obj_mem.specs.Objects.{Shape}
use Rattle.obj_mem.specs.declared.map.Frame.{Frame}
use Rattle.obj_mem.specs.declared.map.Map.{Map}
use Rattle.cheri_c_sem.specs.Modes.{Store, operations, frame_within, placed_plan}
use Rattle.cheri_c_sem.specs.Programs.{program_tree}
use Rattle.cheri_c_sem.specs.Tree.{Fun}
use Rattle.mean_steps.specs.Machine.{Moment, first_moment, act, limits}
use Rattle.placed_objects.specs.Calls.{Call, calls_in}

-- ---- objects

-- an object's base and its owned length, padding included
abbrev pub extent_of : Shape → ℕ × ℕ
extent_of s = (s.base, s.owned)

-- of all objects that were made, in their order
abbrev pub extents_in : Moment Store → List (ℕ × ℕ)
extents_in t = map extent_of t.now.mem.memory.shapes

-- object k is a local of one of these calls
abbrev pub IsLocalOf : List Call → ℕ → Type 0
IsLocalOf [] k = ⊥
IsLocalOf (c ∷ cs) k = ((c.first ≤ k) × (k < c.first + length c.function.objects)) ⊎ IsLocalOf cs k

abbrev pub IsWithin : ℕ × ℕ → ℕ × ℕ → Type 0
IsWithin e part = (part.0 ≤ e.0) × (e.0 + e.1 ≤ part.0 + part.1)

-- Object k at an extent is alive: in the stack a local of a call in progress is, for a local of a function that has
-- returned is kept and dead. Elsewhere each object is: a global, a literal or an allocation
abbrev pub IsAlive : Map → List Call → ℕ → ℕ × ℕ → Type 0
IsAlive m calls k e = IsWithin e m.stack → IsLocalOf calls k

-- ---- frames

-- The frame of a call is that of its function, as high as it stands below that of the caller
pub record IsFrameOf (funs : List Fun) (m : Map) (c : Call) (f : Frame) : Type 0 where
  pub number : ℕ
  pub function : slice_get funs number ≡ Some c.function
  pub there : slice_get m.frames number ≡ Some f
  pub stands : frame_within m.stack.0 c.above (Some f) ≡ Some c.frame

abbrev pub AreFramesOf : List Fun → Map → List Call → List Frame → Type 0
AreFramesOf funs m [] [] = Unit {0}
AreFramesOf funs m [] (f ∷ fs) = ⊥
AreFramesOf funs m (c ∷ cs) [] = ⊥
AreFramesOf funs m (c ∷ cs) (f ∷ fs) = IsFrameOf funs m c f × AreFramesOf funs m cs fs

-- the parts in which registers, spilled values and arguments are saved
abbrev pub saved_parts : List Call → List Frame → List (ℕ × ℕ)
saved_parts [] fs = []
saved_parts (c ∷ cs) [] = []
saved_parts (c ∷ cs) (f ∷ fs) = (c.frame, f.saved) ∷ saved_parts cs fs

-- ---- the law

pub record ExtentsAreApart (funs : List Fun) (m : Map) (t : Moment Store) : Type 0 where
  -- the extents of two objects that are alive
  pub objects : (j k : ℕ) (d e : ℕ × ℕ) → slice_get (extents_in t) j ≡ Some d → slice_get (extents_in t) k ≡ Some e
      → (j ≡ k → ⊥) → IsAlive m (calls_in t) j d → IsAlive m (calls_in t) k e → AreApart d e
  -- of objects with bytes only locals of functions that have returned are not alive
  pub living : (k : ℕ) (s : Shape) → slice_get t.now.mem.memory.shapes k ≡ Some s → IsNotReturned s.life → 0 < s.owned
      → IsAlive m (calls_in t) k (extent_of s)
  -- and each from the text, the table, and what the frames of the calls in progress save
  pub frames : List Frame
  pub are_frames : AreFramesOf funs m (calls_in t) frames
  pub others : (k : ℕ) (e : ℕ × ℕ) → slice_get (extents_in t) k ≡ Some e → IsAlive m (calls_in t) k e
      → IsApartFrom e (m.text ∷ m.table ∷ saved_parts (calls_in t) frames)

-- Of every sound program, legal map and input, with so many turns, after so many acts
abbrev pub ExtentsStayApart : Type 0
ExtentsStayApart = (p : Typed) → Sound p → (m : Map) → Legal p m → (w : World) (turns n : ℕ)
    → ExtentsAreApart (program_tree p).funs m
    (run limits (act (operations (placed_plan m)) (program_tree p).funs) w n
    (first_moment (operations (placed_plan m)) (program_tree p) turns) nothing_done).state
