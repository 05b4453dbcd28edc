-- What tracks a run that is meant matches it, in the words of the base crate.
use Rattle.std.proofs.Common.{◌≡◌, ◌≢◌, ◌⊎◌, ℕ, ◌+◌, ◌*◌, true, false, length, Option, Some, None, inl, inr, sym, ap}
use Rattle.std.proofs.Common.{◌∙◌, subst, arith, min}
use Rattle.ck_base.specs.Agreement.{SameEnd, GoesOn, DoesWhatIsMeant}
use Rattle.ck_base.specs.Calls.{BeginsWith}
use Rattle.ck_base.specs.Runs.{outcome, outcome_by, ending_alone}
use Rattle.ck_base.specs.World.{World, Done, Outcome, nothing_done}
use Rattle.cap_machine.specs.declared.end.End.{End}
use Rattle.cap_machine.specs.declared.end.End.TheVariants as ends
use Rattle.cap_machine.specs.declared.machine.Machine.{Machine}
use Rattle.cap_machine.specs.Step.{act, limits}
use Rattle.obj_mem.specs.declared.ending.Ending.{Ending}
use Rattle.obj_mem.specs.declared.ending.Ending.TheVariants as meant
use Rattle.obj_mem.specs.Endings.{is_turns, is_outside}
use Rattle.cheri_c_sem.specs.Steps.{Fate, outcome_of}
use Rattle.tracked_runs.specs.Matching.{IsReport, Reports, TrackedRunsMatch, course_by, course_of, sides_of}
use Rattle.tracked_runs.specs.Tracking.{Moment, moment, Finished, Tracks}
use Rattle.tracked_runs.proofs.Follow.{Final, end_or, final, run_is, Agrees, KeepsUp, agrees, keeps_up}

-- ---- what an ending says of both

module _ (report : End → Option Ending) (reports : IsReport report) where
  abbrev done_by : World → Final Machine End → Outcome End
  done_by w r = record {
    output = r.at.done.output;
    taken = min r.at.done.reads (length w.bytes);
    ending = end_or ends.Steps r.end;
  }

  abbrev meant_by : World → Done → Ending → Outcome Ending
  meant_by w d e = outcome_of w (record { done = d; ending = e })

  -- what reports something isn't the end of the steps
  no_end : (e : End) (f : Ending) → report e ≡ Some f → e ≢ ends.Steps
  no_end e f h same = let x : None ≡ Some f = sym reports.steps ∙ ap report (sym same) ∙ h in cc

  goes_on : (w : World) (r : Final Machine End) (d : Done) (e : Ending)
      → (r.end ≡ None) × BeginsWith d.output r.at.done.output → GoesOn ends.Steps (done_by w r) (meant_by w d e)
  goes_on w r d e h = record { ending = ap (end_or ends.Steps) h.0; output = h.1 }

  abbrev Same : World → Final Machine End → Done → Ending → Type 0
  Same w r d e = GoesOn ends.Steps (done_by w r) (meant_by w d e) ⊎ SameEnd report (done_by w r) (meant_by w d e)

  finished : (w : World) (r : Final Machine End) (d : Done) (e : Ending)
      → Agrees limits act w (Reports report) (Finished d e) r → Same w r d e
  finished w r d e (inl h) = inl (goes_on w r d e h)
  finished w r d e (inr (x, is, rep, same)) = inr (record {
    output = ap (λ (y : Done). y.output) same;
    taken = ap (λ (y : Done). min y.reads (length w.bytes)) same;
    ending = ap (λ y. report (end_or ends.Steps y)) is ∙ rep;
  })

  same_run : (w : World) (r : Final Machine End) (d : Done) (e : Ending)
      → Agrees limits act w (Reports report) (course_by d e) r → is_outside e ≡ false → Same w r d e
  same_run w r d meant.Turns h inside = inl (goes_on w r d meant.Turns h)
  same_run w r d (meant.Outside pos) h inside = cc
  same_run w r d e h inside = finished w r d e h

  going : (w : World) (r : Final Machine End) (d : Done) (e : Ending)
      → Agrees limits act w (Reports report) (course_by d e) r → is_outside e ≡ true
      → BeginsWith d.output r.at.done.output ⊎ BeginsWith r.at.done.output d.output
  going w r d (meant.Outside pos) (inl h) out = h.1
  going w r d (meant.Outside pos) (inr (x, is, begins)) out = inr begins
  going w r d e h out = cc

  ended : (w : World) (r : Final Machine End) (d : Done) (e : Ending)
      → Agrees limits act w (Reports report) (course_by d e) r → is_outside e ≡ true
      → end_or ends.Steps r.end ≢ ends.Steps → BeginsWith r.at.done.output d.output
  ended w r d (meant.Outside pos) (inl h) out still = absurd (still (ap (end_or ends.Steps) h.0))
  ended w r d (meant.Outside pos) (inr (x, is, begins)) out inside = begins
  ended w r d e h out inside = cc

  all_output : (w : World) (r : Final Machine End) (d : Done) (e : Ending)
      → KeepsUp limits act w (Reports report) (course_by d e) r → BeginsWith r.at.done.output d.output
  all_output w r d meant.Turns h = h
  all_output w r d (meant.Outside pos) h = h
  all_output w r d e h = h.0

  has_ended : (w : World) (r : Final Machine End) (d : Done) (e : Ending)
      → KeepsUp limits act w (Reports report) (course_by d e) r → is_turns e ≡ false → is_outside e ≡ false
      → end_or ends.Steps r.end ≢ ends.Steps
  has_ended w r d meant.Turns h inside not_out = cc
  has_ended w r d (meant.Outside pos) h inside not_out = cc
  has_ended w r d e h inside not_out = λ same. no_end h.1.0 e h.1.2 (sym (ap (end_or ends.Steps) h.1.1) ∙ same)

-- ---- from the start

module _ (report : End → Option Ending) (reports : IsReport report) (w : World) (fate : ℕ → Fate) (count : ℕ)
    (m : Machine)
    (tracks : (n : ℕ) → Tracks limits act w (Reports report) n ((n + 1) * count) (course_of (fate n))
    (moment m nothing_done)) where
  abbrev start : Moment Machine
  start = moment m nothing_done

  abbrev at_end : ℕ → Final Machine End
  at_end n = final limits act w n start

  abbrev meant_in : ℕ → Outcome Ending
  meant_in n = outcome_of w (fate n)

  done_is : (n : ℕ) → done_by report reports w (at_end n) ≡ outcome limits act ending_alone m n w
  done_is n = ap (λ r. outcome_by ending_alone w r) (sym (run_is limits act w n start))

  agreed : (n : ℕ) → Agrees limits act w (Reports report) (course_of (fate n)) (at_end n)
  agreed n = agrees limits act w (Reports report) n ((n + 1) * count) (course_of (fate n)) start (tracks n)

  kept_up : (n : ℕ) → KeepsUp limits act w (Reports report) (course_of (fate n)) (at_end ((n + 1) * count))
  kept_up n =
      keeps_up limits act w (Reports report) n ((n + 1) * count) ((n + 1) * count) (course_of (fate n)) start
      (omega arith) (tracks n)

  matches : DoesWhatIsMeant (sides_of report w meant_in m) count
  matches = record {
    same_run = λ n inside.
        subst (λ x. GoesOn ends.Steps x (meant_in n) ⊎ SameEnd report x (meant_in n)) (done_is n)
        (same_run report reports w (at_end n) (fate n).done (fate n).ending (agreed n) inside);
    going = λ n out goes.
        subst (λ (x : Outcome End). BeginsWith (meant_in n).output x.output ⊎ BeginsWith x.output (meant_in n).output)
        (done_is n) (going report reports w (at_end n) (fate n).done (fate n).ending (agreed n) out);
    ended = λ n out no.
        subst (λ (x : Outcome End). x.ending ≢ ends.Steps → BeginsWith x.output (meant_in n).output) (done_is n)
        (ended report reports w (at_end n) (fate n).done (fate n).ending (agreed n) out) no;
    enough = λ n.
        subst (λ (x : Outcome End). BeginsWith x.output (meant_in n).output) (done_is ((n + 1) * count))
        (all_output report reports w (at_end ((n + 1) * count)) (fate n).done (fate n).ending (kept_up n));
    ends = λ n inside not_out.
        subst (λ (x : Outcome End). x.ending ≢ ends.Steps) (done_is ((n + 1) * count))
        (has_ended report reports w (at_end ((n + 1) * count)) (fate n).done (fate n).ending (kept_up n) inside
        not_out);
  }

pub tracked_runs_match_law : TrackedRunsMatch
tracked_runs_match_law report reports w fate count m tracks = matches report reports w fate count m tracks
