use Rattle.std.proofs.Common.{refl}
use Rattle.mean_run.specs.Views.{vars_at}
use Rattle.mean_run.proofs.state.State.finish_by.Goals as goal

pub returns-in-Decay-clause-does : goal.returns-in-Decay-clause-does
returns-in-Decay-clause-does g c = λ fit.
    let p = c.args.s.now.p.now in
    let vars = vars_at p c.args.f in
    let held = g.B.Operations.held c.args.m.now in
    rw c.in-Decay.is (c.pointer_to.ensures.does vars)

pub returns-in-Address-clause-does : goal.returns-in-Address-clause-does
returns-in-Address-clause-does g c = λ fit.
    let p = c.args.s.now.p.now in
    let vars = vars_at p c.args.f in
    let held = g.B.Operations.held c.args.m.now in
    rw c.in-Address.is (c.pointer_to-in-Address.ensures.does vars)

pub returns-in-Load-clause-does : goal.returns-in-Load-clause-does
returns-in-Load-clause-does g c = λ fit.
    let p = c.args.s.now.p.now in
    let vars = vars_at p c.args.f in
    let held = g.B.Operations.held c.args.m.now in
    rw c.in-Load.is c.loaded.ensures

pub returns-in-Convert-clause-does : goal.returns-in-Convert-clause-does
returns-in-Convert-clause-does g c = λ fit.
    let p = c.args.s.now.p.now in
    let vars = vars_at p c.args.f in
    let held = g.B.Operations.held c.args.m.now in
    rw c.in-Convert.is (c.convert.ensures vars)

pub returns-in-Member-clause-does : goal.returns-in-Member-clause-does
returns-in-Member-clause-does g c = λ fit.
    let p = c.args.s.now.p.now in
    let vars = vars_at p c.args.f in
    let held = g.B.Operations.held c.args.m.now in
    rw c.in-Member.is (c.lose_place.ensures p (g.B.Operations.meaning c.args.m.now) held c.args.e.now.pos)

pub returns-in-Deref-clause-does : goal.returns-in-Deref-clause-does
returns-in-Deref-clause-does g c = λ fit.
    let p = c.args.s.now.p.now in
    let vars = vars_at p c.args.f in
    let held = g.B.Operations.held c.args.m.now in
    rw c.in-Deref.is (c.lose_value.ensures p (g.B.Operations.meaning c.args.m.now) held c.args.e.now.pos)

pub returns-in-Unary-clause-does : goal.returns-in-Unary-clause-does
returns-in-Unary-clause-does g c = λ fit.
    let p = c.args.s.now.p.now in
    let vars = vars_at p c.args.f in
    let held = g.B.Operations.held c.args.m.now in
    rw c.in-Unary.is (λ x. c.unary.ensures p _ x (c.kind_at.ensures vars))

pub returns-in-Compare-clause-does : goal.returns-in-Compare-clause-does
returns-in-Compare-clause-does g c = λ fit.
    let p = c.args.s.now.p.now in
    let vars = vars_at p c.args.f in
    let held = g.B.Operations.held c.args.m.now in
    rw c.in-Compare.is (λ x y. c.compare.ensures p _ x y (c.kind_at-in-Compare.ensures vars))

pub returns-in-Assign-clause-does : goal.returns-in-Assign-clause-does
returns-in-Assign-clause-does g c = λ fit.
    let p = c.args.s.now.p.now in
    let vars = vars_at p c.args.f in
    let held = g.B.Operations.held c.args.m.now in
    rw c.in-Assign.is (c.assign.ensures.does fit vars)

pub returns-in-Compound-clause-does : goal.returns-in-Compound-clause-does
returns-in-Compound-clause-does g c = λ fit.
    let p = c.args.s.now.p.now in
    let vars = vars_at p c.args.f in
    let held = g.B.Operations.held c.args.m.now in
    rw c.in-Compound.is (c.compound.ensures.does fit vars)

pub returns-in-Step-clause-does : goal.returns-in-Step-clause-does
returns-in-Step-clause-does g c = λ fit.
    let p = c.args.s.now.p.now in
    let vars = vars_at p c.args.f in
    let held = g.B.Operations.held c.args.m.now in
    rw c.in-Step.is (c.step_by.ensures.does vars)

pub returns-in-Int-clause-does : goal.returns-in-Int-clause-does
returns-in-Int-clause-does g c = λ fit.
    let d = rw c.in-Int.is at c.binary.ensures fit (vars_at c.args.s.now.p.now c.args.f) in
    rw c.in-Int.is (d tt refl)

pub returns-in-Capability-clause-does : goal.returns-in-Capability-clause-does
returns-in-Capability-clause-does g c = λ fit.
    let d = rw c.in-Capability.is at c.binary-in-Capability.ensures fit (vars_at c.args.s.now.p.now c.args.f) in
    rw c.in-Capability.is (d tt refl)

pub returns-in-Plus-clause-does : goal.returns-in-Plus-clause-does
returns-in-Plus-clause-does g c = λ fit.
    let d = rw c.in-Plus.is at c.binary-in-Plus.ensures fit (vars_at c.args.s.now.p.now c.args.f) in
    rw c.in-Plus.is (λ sized. d sized refl)

pub returns-in-Difference-clause-does : goal.returns-in-Difference-clause-does
returns-in-Difference-clause-does g c = λ fit.
    let d = rw c.in-Difference.is at c.binary-in-Difference.ensures fit (vars_at c.args.s.now.p.now c.args.f) in
    rw c.in-Difference.is (λ sized. d sized refl)
