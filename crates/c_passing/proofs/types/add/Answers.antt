use Rattle.std.proofs.Common.{sym, subst}
use Rattle.c_passing.specs.Numbered.{AddsType}
use Rattle.c_passing.proofs.Numbering.{adds_void, adds_int, adds_cap, adds_incomplete}
use Rattle.c_passing.proofs.types.add.Goals as goal
use Rattle.passing_steps.proofs.Results.{on_ok}

pub returns-in-Void : goal.returns-in-Void
returns-in-Void c =
    on_ok c.keep.result _ _ (λ k. subst (AddsType c.args.types.now c.args.into.now c.keep.new.into) (sym c.in-Void.is)
    (adds_void c.args.types.now c.args.into.now c.keep.new.into k)) c.keep.ensures

pub returns-in-Int : goal.returns-in-Int
returns-in-Int c =
    on_ok c.plainly.result _ _ (λ k. subst (AddsType c.args.types.now c.args.into.now c.plainly.new.into)
    (sym c.in-Int.is) (adds_int c.args.types.now c.args.into.now c.plainly.new.into _ _ k)) c.plainly.ensures

pub returns-in-Cap : goal.returns-in-Cap
returns-in-Cap c =
    on_ok c.plainly-in-Cap.result _ _ (λ k. subst (AddsType c.args.types.now c.args.into.now c.plainly-in-Cap.new.into)
    (sym c.in-Cap.is) (adds_cap c.args.types.now c.args.into.now c.plainly-in-Cap.new.into _ k))
    c.plainly-in-Cap.ensures

pub returns-in-Incomplete : goal.returns-in-Incomplete
returns-in-Incomplete c =
    on_ok c.add_tagged.result _ _ (λ k. subst (AddsType c.args.types.now c.args.into.now c.add_tagged.new.into)
    (sym c.in-Incomplete.is) (adds_incomplete c.args.types.now c.args.into.now c.add_tagged.new.into _ k))
    c.add_tagged.ensures
