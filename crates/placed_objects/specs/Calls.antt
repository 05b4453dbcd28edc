-- The calls in progress at a moment of a run.
use Rattle.std.specs.Prelude.{ℕ, List, [], ◌∷◌}
use Rattle.cheri_c_sem.specs.Tree.{Fun}
use Rattle.mean_steps.specs.Machine.{Item, Leave_function, Caller, Moment}

-- the functions that are to be left, the newest first
abbrev pub functions_of : List Item → List Fun
functions_of [] = []
functions_of (Leave_function first g ∷ is) = g ∷ functions_of is
functions_of (i ∷ is) = functions_of is

-- A call: its function, the number of the first of its objects, the address of its frame, and that of its caller's
-- frame, which is the stack's top for the first call
pub record Call : Type 0 where
  pub function : Fun
  pub first : ℕ
  pub frame : ℕ
  pub above : ℕ

-- where the newest has its objects from a number on, and its frame at an address
abbrev pub calls_from : List Fun → (first frame : ℕ) → List Caller → List Call
calls_from [] first frame cs = []
calls_from (g ∷ gs) first frame [] = []
calls_from (g ∷ gs) first frame (c ∷ cs) =
    record { function = g; first = first; frame = frame; above = c.frame } ∷ calls_from gs c.first c.frame cs

-- the calls in progress, the newest first
abbrev pub calls_in : {M : Type 0} → Moment M → List Call
calls_in t = calls_from (functions_of t.work) t.now.first t.now.frame t.callers
