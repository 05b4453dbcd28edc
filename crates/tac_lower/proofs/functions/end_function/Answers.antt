use Rattle.std.proofs.Common.{subst}
use Rattle.std.proofs.lemmas.Result.{IfOk-weaker, IfOk-from_err as fails}
use Rattle.tac_lower.specs.Signed.{ReturnFits}
use Rattle.tac_lower.proofs.Homes.{left_before, tail_whole, keeps_returned, closed_grown}
use Rattle.tac_lower.proofs.Shortness.{made_returned}
use Rattle.tac_lower.proofs.Ending.{ends_left, ends_after}
use Rattle.tac_lower.proofs.functions.end_function.Goals as goal

pub returns-then-has_left-clause-whole : goal.returns-then-has_left-clause-whole
returns-then-has_left-clause-whole c =
    let s = c.requires.scene in
    left_before c.requires.fits s.ready.ordered c.args.out.now s.well c.requires.closed
    (c.has_left.ensures c.if-has_left.true)

pub returns-clause-whole : goal.returns-clause-whole
returns-clause-whole c =
    let s = c.requires.scene in
    let fits = c.requires.fits in
    let e = c.in_ok-value.ensures in
    let same = c.gives.ensures c.args.cx.p.now fits.result fits.takes s.ready fits.type_is in
    tail_whole fits s.ready.ordered _ c.leave.result c.in_ok-value.value
    (e.grown.well c.args.cx.p.now c.args.cx.d.now s.well)
    (closed_grown c.args.out.now c.end_value.new.out e.grown c.requires.closed)
    (subst (λ z. ReturnFits c.end_value.new.out z c.in_ok-value.value) same e.value) c.leave.ensures.pushed

pub returns-clause-keeps : goal.returns-clause-keeps
returns-clause-keeps c =
    keeps_returned c.args.out.now c.end_value.new.out _ c.leave.result c.in_ok-value.value
    c.in_ok-value.ensures.grown.keeps c.leave.ensures.pushed

pub returns-then-has_left-clause-made : goal.returns-then-has_left-clause-made
returns-then-has_left-clause-made c = c.requires.scene.well.made

pub returns-clause-made : goal.returns-clause-made
returns-clause-made c =
    let made = (c.in_ok-value.ensures.grown.well c.args.cx.p.now c.args.cx.d.now c.requires.scene.well).made in
    IfOk-weaker c.leave.result _ _
    (λ r h. made_returned c.end_value.new.out c.leave.new.self c.in_ok-value.value made h) c.leave.ensures.pushed

pub returns-then-has_left-clause-ends : goal.returns-then-has_left-clause-ends
returns-then-has_left-clause-ends c =
    let s = c.requires.scene in
    let h = c.has_left.ensures c.if-has_left.true in
    ends_left c.requires.fits s.ready.ordered c.args.out.now h
    (left_before c.requires.fits s.ready.ordered c.args.out.now s.well c.requires.closed h)

pub returns-clause-ends : goal.returns-clause-ends
returns-clause-ends c =
    let s = c.requires.scene in
    let fits = c.requires.fits in
    ends_after fits s.ready.ordered c.args.out.now c.end_value.new.out _ c.leave.result c.in_ok-value.value _
    (c.gives.ensures c.args.cx.p.now fits.result fits.takes s.ready fits.type_is) c.in_ok-value.ensures.ends
    c.leave.ensures.pushed

pub returns-in_err-value : goal.returns-in_err-value
returns-in_err-value c =
    let e = c.from_residual.ensures.0 in
    record {
      adds = fails _ _ e;
      ends = fails _ _ e;
      keeps = fails _ _ e;
      made = fails _ _ e;
      spent = fails _ _ e;
      whole = fails _ _ e;
    }
