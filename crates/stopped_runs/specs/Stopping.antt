-- What a run did that stopped for want of memory.
use Rattle.std.specs.Prelude.{◌≡◌, ℕ, ◌≤◌, IfSome, List, drop, Some, None}
use Rattle.std.specs.Io.KnownBytes.{Appends}
use Rattle.ck_base.specs.Calls.{Seen, BeginsWith, Grows}
use Rattle.ck_base.specs.World.{World, Outcome}

-- nothing fails in it
abbrev pub sure_world : List ℕ → World
sure_world bytes = record { bytes = bytes; failing_read = None; failing_put = None }

-- It took some of the bytes that the run takes, and put the first bytes of the run's output.
pub record IsBeginning {E : Type 0} (outcome : Outcome E) (bytes : List ℕ) (before after : Seen) : Type 0 where
  pub taken : ℕ
  pub left : after.left ≡ Some (drop taken bytes)
  pub within : taken ≤ outcome.taken
  pub output : List ℕ
  pub held : Appends before.held after.held output
  pub front : BeginsWith outcome.output output

-- Nothing failed up to there.
pub record StoppedShort {E : Type 0} (outcomes : World → Outcome E) (before after : Seen) : Type 0 where
  pub source_faults : after.source_faults ≡ before.source_faults
  pub sink_faults : after.sink_faults ≡ before.sink_faults
  pub grows : Grows before.held after.held
  -- where the source tells its bytes
  pub beginning : IfSome before.left (λ bytes. IsBeginning (outcomes (sure_world bytes)) bytes before after)
