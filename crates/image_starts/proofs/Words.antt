-- The machine of a contained image, and all that it comes to, have addresses of 64 bits.
use Rattle.std.proofs.Common.{◌≡◌, ℕ, zero, suc, Bool, true, false, refl, subst}
use Rattle.std.specs.Prelude.{slice_get, length, if◌then◌else◌}
use Rattle.ck_base.specs.Runs.{Act, Goes, Puts, Reads, Ends, with_put, with_read}
use Rattle.ck_base.specs.World.{World, Done, GivesBytes, fails_after, nothing_done}
use Rattle.cap_machine.specs.Containment.{IsContained, Keeps}
use Rattle.cap_machine.specs.ContainedText.{Text, LiesWell, IsContainedText}
use Rattle.cap_machine.specs.Step.{act, limits}
use Rattle.cap_machine.specs.declared.end.End.{End}
use Rattle.cap_machine.specs.declared.machine.Machine.{Machine}
use Rattle.cap_machine.proofs.Containment.{act_kept, byte_read}
use Rattle.image_load.specs.Contained.{text_in}
use Rattle.image_load.specs.State.{machine_of}
use Rattle.image_load.proofs.First.{first_contained}
use Rattle.tracked_runs.specs.Tracking.{Moment, Next, Ended, Reaches, moment, stepped}
use Rattle.image_starts.specs.Running.{ImagesHaveWords}

module _ (t : Text) (well : LiesWell t) (text : IsContainedText t) (w : World)
    (bytes : GivesBytes w) where
  unless : (f : Bool) (e : End) (m next : Moment Machine) → IsContained t m.state
      → (if f then Ended e else Next m) ≡ Next next → IsContained t next.state
  unless true e m next has is = absurd cc
  unless false e m next has is =
      let same : m ≡ next = cc in subst (λ (x : Moment Machine). IsContained t x.state) same has

  goes_on : (a : Act Machine End) (d : Done) (next : Moment Machine) → Keeps t a
      → stepped limits w d a ≡ Next next → IsContained t next.state
  goes_on (Goes m) d next kept e =
      let same : moment m d ≡ next = cc in subst (λ (x : Moment Machine). IsContained t x.state) same kept
  goes_on (Puts b m) d next kept e =
      unless (fails_after w.failing_put (length d.output)) limits.write_fault (moment m (with_put d b)) next kept e
  goes_on (Reads to) d next kept e =
      unless (fails_after w.failing_read d.reads) limits.read_fault
      (moment (to (slice_get w.bytes d.reads)) (with_read d)) next
      (kept (slice_get w.bytes d.reads) (byte_read w bytes d.reads _ refl)) e
  goes_on (Ends x) d next kept e = absurd cc

  pub reached : (k : ℕ) (s n : Moment Machine) → Reaches limits act w k s n → IsContained t s.state
      → IsContained t n.state
  reached zero s n e has = subst (λ (x : Moment Machine). IsContained t x.state) e has
  reached (suc k) s n (next, goes, more) has =
      reached k next n more (goes_on (act s.state) s.done next (act_kept t well text s.state has) goes)

pub images_have_words_law : ImagesHaveWords
images_have_words_law i fine contained small w bytes k n reaches r =
    let start = first_contained i fine contained small.text small.initial in
    ((reached (text_in i) start.lies contained.text w bytes k (moment (machine_of i) nothing_done) n reaches
    start).registers.held r).address
