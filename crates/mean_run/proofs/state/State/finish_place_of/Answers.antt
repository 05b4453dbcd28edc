use Rattle.std.proofs.Common.{sym, ap, ◌∙◌, subst}
use Rattle.cheri_c_sem.specs.Types.{offset_in}
use Rattle.mean_run.specs.Offsets.{HasMember}
use Rattle.mean_run.specs.Views.{vars_at}
use Rattle.mean_run.proofs.state.State.finish_place_of.Goals as goal

pub returns-in-Deref-clause-does : goal.returns-in-Deref-clause-does
returns-in-Deref-clause-does g c = λ fit.
    let ops = g.B.Operations.meaning c.args.m.now in
    let held = g.B.Operations.held c.args.m.now in
    rw c.in-Deref.is (λ x. c.deref_place.ensures c.args.s.now.p.now ops held x)

pub returns-in-Member-clause-does : goal.returns-in-Member-clause-does
returns-in-Member-clause-does g c = λ fit.
    let p = c.args.s.now.p.now in
    let n = c.in-Member.member in
    rw c.in-Member.is (λ has x. let at = c.offset.ensures p.types c.requires.offsets
    (subst (λ t. HasMember p.types t n) (sym c.type_of.ensures) has)
    ∙ ap (λ t. offset_in p.types t n) c.type_of.ensures in rw (← at) (c.member_place.ensures p x))

pub returns-in-Assign-clause-does : goal.returns-in-Assign-clause-does
returns-in-Assign-clause-does g c = λ fit.
    rw c.in-Assign.is (c.assigned_place.ensures.does fit (vars_at c.args.s.now.p.now c.args.f))
