-- A run that goes no further is the beginning of one.
use Rattle.std.proofs.Common.{◌≡◌, ℕ, zero, suc, ◌≤◌, min, Bool, true, false, [], Some, length, refl, sym}
use Rattle.std.proofs.Common.{ap, ◌∙◌, arith}
use Rattle.std.specs.Prelude.{slice_get}
use Rattle.std.proofs.lemmas.List.{drop_min}
use Rattle.ck_base.specs.Calls.{Seen}
use Rattle.ck_base.specs.RunLaws.{Running, IfSome-from, Appends-nil, grows, run-zero, run-goes, run-ends}
use Rattle.ck_base.specs.RunLaws.{run-puts, run-put_fails, run-reads, run-read_fails}
use Rattle.ck_base.specs.Runs.{Act, Goes, Puts, Reads, Ends, Limits, with_put, with_read, run, outcome}
use Rattle.ck_base.specs.World.{World, Done, Outcome, fails_after}
use Rattle.stopped_runs.specs.Stopping.{sure_world, StoppedShort}

module _ {S E : Type 0} (limits : Limits E) (act : S → Act S E) where
  -- ---- the reads only grow in number
  reads_by : (w : World) (n : ℕ) (s : S) (d : Done) →
      ((s' : S) (d' : Done) → d'.reads ≤ (run limits act w n s' d').done.reads) → (a : Act S E) → act s ≡ a →
      d.reads ≤ (run limits act w (suc n) s d).done.reads
  reads_by w n s d again (Goes t) e = rw (run-goes limits act w n s t d e) (again t d)
  reads_by w n s d again (Ends x) e = rw (run-ends limits act w n s d x e) (omega arith)
  reads_by w n s d again (Puts b t) e = by_put (fails_after w.failing_put (length d.output)) refl
    where
      by_put : (f : Bool) → fails_after w.failing_put (length d.output) ≡ f →
          d.reads ≤ (run limits act w (suc n) s d).done.reads
      by_put true f = rw (run-put_fails limits act w n s t d b e f) (omega arith)
      by_put false f = rw (run-puts limits act w n s t d b e f) (again t (with_put d b))
  reads_by w n s d again (Reads to) e = by_read (fails_after w.failing_read d.reads) refl
    where
      by_read : (f : Bool) → fails_after w.failing_read d.reads ≡ f →
          d.reads ≤ (run limits act w (suc n) s d).done.reads
      by_read true f = rw (run-read_fails limits act w n s to d e f) (omega arith)
      by_read false f =
          let more = again (to (slice_get w.bytes d.reads)) (with_read d) in
          rw (run-reads limits act w n s to d e f) (omega arith)

  reads_grow : (w : World) (n : ℕ) (s : S) (d : Done) → d.reads ≤ (run limits act w n s d).done.reads
  reads_grow w zero s d = rw (run-zero limits act w s d) (omega arith)
  reads_grow w (suc n) s d = reads_by w n s d (λ t e. reads_grow w n t e) (act s) refl

  module _ {X : Type 0} (wanted : S → E → X) (n : ℕ) (first : S) (before now : Seen) (s : S) (k : ℕ) where
    pub stopped_short : Running limits act n first before now s k →
        StoppedShort (outcome limits act wanted first n) before now
    stopped_short running = record {
      source_faults = running.source_faults;
      sink_faults = running.sink_faults;
      grows = running.grows;
      beginning = IfSome-from before.left _ (λ bytes told.
          let so_far = running.sofar bytes told in
          let d = so_far.done in
          let w = sure_world bytes in
          let same = so_far.same w (record { bytes_left = refl; read = tt; put = tt }) in
          let more = reads_grow w k s d in
          record {
            taken = min d.reads (length bytes);
            left = so_far.left ∙ ap Some (sym (drop_min d.reads bytes));
            within = rw same (omega arith);
            output = d.output;
            held = so_far.held;
            front = rw same (grows limits act w k s d);
          });
    }

-- nothing was done
pub not_begun : {E : Type 0} (outcomes : World → Outcome E) (before : Seen) → StoppedShort outcomes before before
not_begun outcomes before = record {
  source_faults = refl;
  sink_faults = refl;
  grows = ([], Appends-nil before.held);
  beginning = IfSome-from before.left _ (λ bytes told. record {
    taken = 0;
    left = told;
    within = omega arith;
    output = [];
    held = Appends-nil before.held;
    front = ((outcomes (sure_world bytes)).output, refl);
  });
}
