-- A machine that acts step by step in a world, and what it means that it tracks a run that is counted in turns.
use Rattle.std.specs.Prelude.{◌≡◌, ℕ, zero, suc, ◌≤◌, ◌<◌, length, slice_get, if◌then◌else◌}
use Rattle.ck_base.specs.World.{World, Done, fails_after}
use Rattle.ck_base.specs.Runs.{Act, Goes, Puts, Reads, Ends, Limits, with_put, with_read}

-- a state of the machine, with what was done with the outside
pub record Moment (S : Type 0) : Type 0 where
  pub state : S
  pub done : Done

-- one step: to the next moment, or to an ending
pub data Stepped (S E : Type 0) : Type 0 where
  Next : Moment S → Stepped S E
  Ended : E → Stepped S E

abbrev pub moment : {S : Type 0} → S → Done → Moment S
moment s d = record { state = s; done = d }

-- an act in a world
abbrev pub stepped : {S E : Type 0} → Limits E → World → Done → Act S E → Stepped S E
stepped limits w d (Goes s) = Next (moment s d)
stepped limits w d (Puts b s) =
    if fails_after w.failing_put (length d.output) then Ended limits.write_fault else Next (moment s (with_put d b))
stepped limits w d (Reads to) =
    if fails_after w.failing_read d.reads then Ended limits.read_fault
    else Next (moment (to (slice_get w.bytes d.reads)) (with_read d))
stepped limits w d (Ends e) = Ended e

abbrev pub step : {S E : Type 0} → Limits E → (S → Act S E) → World → Moment S → Stepped S E
step limits act w m = stepped limits w m.done (act m.state)

-- exactly j steps lead from one moment to another
abbrev pub Reaches : {S E : Type 0} → Limits E → (S → Act S E) → World → ℕ → Moment S → Moment S → Type 0
Reaches limits act w zero m n = m ≡ n
Reaches {S} limits act w (suc j) m n =
    (next : Moment S) × (step limits act w m ≡ Next next) × Reaches limits act w j next n

-- How a run that is counted in turns comes out: it has ended, it waits for one more turn, or it ends where nothing is
-- promised any more
pub data Course (F : Type 0) : Type 0 where
  Finished : Done → F → Course F
  Waiting : Done → Course F
  Outside : Done → Course F

-- The machine's run from a moment tracks a run of m turns: it needs at most b steps, and at least one for each turn.
abbrev pub Tracks : {S E F : Type 0} → Limits E → (S → Act S E) → World → (E → F → Type 0) → (m b : ℕ) → Course F →
    Moment S → Type 0
Tracks {S} {E} limits act w Reports m b (Finished d f) s =
    (j : ℕ) × (j < b) × (t : Moment S) × (e : E) × Reaches limits act w j s t × (step limits act w t ≡ Ended e) ×
    Reports e f × (t.done ≡ d)
Tracks {S} limits act w Reports m b (Waiting d) s =
    (j : ℕ) × (m ≤ j) × (j ≤ b) × (t : Moment S) × Reaches limits act w j s t × (t.done ≡ d)
Tracks {S} limits act w Reports m b (Outside d) s =
    (j : ℕ) × (j ≤ b) × (t : Moment S) × Reaches limits act w j s t × (t.done ≡ d)
