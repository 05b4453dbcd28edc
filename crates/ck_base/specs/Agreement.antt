-- What it means that a machine's runs are a program's runs. It names no language and no machine.
use Rattle.std.specs.Prelude.{◌≡◌, ◌≢◌, ℕ, ◌+◌, ◌*◌, ◌⊎◌, Option, Some, Bool, true, false}
use Rattle.ck_base.specs.World.{Outcome}
use Rattle.ck_base.specs.Calls.{BeginsWith}

-- The two sides in one world: what the machine comes to with at most so many instructions, and the meaning with at most
-- so many turns; the machine's ending where it did all the instructions; which endings of the meaning are "one more
-- turn is needed" and "outside"; and what an ending of the machine reports.
pub record Sides (E F : Type 0) : Type 0 where
  pub machine : (instructions : ℕ) → Outcome E
  pub meaning : (turns : ℕ) → Outcome F
  pub steps : E
  pub is_turns : F → Bool
  pub is_outside : F → Bool
  pub report : E → Option F

-- the machine has done what is meant, and ended as the meaning did
pub record SameEnd {E F : Type 0} (report : E → Option F) (done : Outcome E) (meant : Outcome F) : Type 0 where
  pub output : done.output ≡ meant.output
  pub taken : done.taken ≡ meant.taken
  pub ending : report done.ending ≡ Some meant.ending

-- the machine goes on, and so far has put a front of what is meant
pub record GoesOn {E F : Type 0} (steps : E) (done : Outcome E) (meant : Outcome F) : Type 0 where
  pub ending : done.ending ≡ steps
  pub output : BeginsWith meant.output done.output

-- The machine does what is meant, in both directions, with `count` instructions for each turn and as many again.
pub record DoesWhatIsMeant {E F : Type 0} (sides : Sides E F) (count : ℕ) : Type 0 where
  -- Same run: unless the meaning ends outside, the machine goes on or has done what is meant.
  pub same_run : (n : ℕ) → sides.is_outside (sides.meaning n).ending ≡ false →
      GoesOn sides.steps (sides.machine n) (sides.meaning n) ⊎
      SameEnd sides.report (sides.machine n) (sides.meaning n)
  -- After outside: where the meaning ends there, a machine that goes on has put a front of what is meant or the other
  -- way round, and one that has ended has put all of it first.
  pub going : (n : ℕ) → sides.is_outside (sides.meaning n).ending ≡ true →
      (sides.machine n).ending ≡ sides.steps →
      BeginsWith (sides.meaning n).output (sides.machine n).output ⊎
      BeginsWith (sides.machine n).output (sides.meaning n).output
  pub ended : (n : ℕ) → sides.is_outside (sides.meaning n).ending ≡ true →
      (sides.machine n).ending ≢ sides.steps → BeginsWith (sides.machine n).output (sides.meaning n).output
  -- Enough steps: the machine has put all that is meant with m turns, and it has ended, unless the meaning needs one
  -- more turn or ends outside.
  pub enough : (m : ℕ) → BeginsWith (sides.machine ((m + 1) * count)).output (sides.meaning m).output
  pub ends : (m : ℕ) → sides.is_turns (sides.meaning m).ending ≡ false →
      sides.is_outside (sides.meaning m).ending ≡ false → (sides.machine ((m + 1) * count)).ending ≢ sides.steps
