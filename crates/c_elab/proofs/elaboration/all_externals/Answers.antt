use Rattle.std.proofs.lemmas.Result.{err_from_is_err_and}
use Rattle.std.proofs.Common.{List, ℕ, subst}
use Rattle.c_elaborator.specs.declared.work.Work.{Work}
use Rattle.c_elaborator.proofs.Sequencing.{keeps_same, keeps_then}
use Rattle.c_elab.proofs.Externals.{FileSoFar, file_begins, file_ends, file_fails, file_steps}
use Rattle.c_readings.specs.Within.{PartsWithin}
use Rattle.c_readings.proofs.Within.{first_within, others_within, within_kept}
use Rattle.c_elab.proofs.elaboration.all_externals.Goals as goal

pub loop-part-init : goal.loop-part-init
loop-part-init c = let u : Work = c.args.work.now in
    record {
      whole = c.requires.whole;
      keeps = keeps_same u;
      parts = c.requires.parts;
      found = λ xs p. file_begins u c.args.kids.now c.requires.whole xs p;
    }

pub external-requires : goal.external-requires
external-requires c =
    let v : Work = c.loop-part.work in
    let h = c.requires.shown in
    let p = c.requires.parts in
    let m = (c.loop-part.invariant.found p.syntax p.are).done.gives h.state h.shows in
    record {
      shown = record { state = m.state; shows = m.shows };
      whole = c.loop-part.invariant.whole;
      part = first_within v c.in-Some.part.first c.in-Some.part.others.now
          (subst (λ (z : List ℕ). PartsWithin v c.args.depth z) c.in-Some.ensures c.loop-part.invariant.parts);
    }

pub loop-part-preserved : goal.loop-part-preserved
loop-part-preserved c =
    let u : Work = c.args.work.now in
    let v : Work = c.loop-part.work in
    let w : Work = c.external.new.work in
    let i = c.loop-part.invariant in
    let k = c.in-Some.part.first in
    let ks = c.in-Some.part.others.now in
    let h = subst (λ (z : List ℕ). PartsWithin v c.args.depth z) c.in-Some.ensures i.parts in
    let f = first_within v k ks h in
    let a = c.in_ok-external.ensures f.syntax f.is in
    record {
      whole = a.whole;
      keeps = keeps_then u v w i.keeps a.grows;
      parts = within_kept v w ks a.grows (others_within v k ks h);
      found = λ xs p. file_steps u v w xs k ks
          (subst (λ (z : List ℕ). FileSoFar u v xs z) c.in-Some.ensures (i.found xs p)) c.in_ok-external.ensures;
    }

pub returns : goal.returns
returns c = λ xs p.
    let u : Work = c.args.work.now in
    let v : Work = c.loop-part.work in
    file_ends u v xs (subst (λ (z : List ℕ). FileSoFar u v xs z) c.in_default.ensures
    (c.loop-part.invariant.found xs p))

pub returns-in_err-external : goal.returns-in_err-external
returns-in_err-external c = let q = err_from_is_err_and c.from_residual.result c.from_residual.ensures.1 in λ xs p.
    let u : Work = c.args.work.now in
    let v : Work = c.loop-part.work in
    rw (q.1, q.2) (file_fails u v c.external.new.work xs c.in-Some.part.first c.in-Some.part.others.now _
    (subst (λ (z : List ℕ). FileSoFar u v xs z) c.in-Some.ensures (c.loop-part.invariant.found xs p))
    c.in_err-external.ensures)
