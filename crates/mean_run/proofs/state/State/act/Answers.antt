use Rattle.mean_run.proofs.Finishing.{value_given}
use Rattle.mean_run.proofs.Serving.{does_stepped}
use Rattle.mean_run.proofs.state.State.act.Goals as goal

pub returns-in-Value-clause-does : goal.returns-in-Value-clause-does
returns-in-Value-clause-does g c = λ fit before.
    let ops = g.B.Operations.meaning c.args.m.now in
    let held = g.B.Operations.held c.args.m.now in
    rw c.in-Value.is (does_stepped _ _ before _ c.evaluate.result (c.evaluate.ensures fit ops held))

pub returns-in-Place-clause-does : goal.returns-in-Place-clause-does
returns-in-Place-clause-does g c = λ fit before.
    rw c.in-Place.is (does_stepped _ _ before _ c.designate_at.result (c.designate_at.ensures fit))

pub returns-in-Drop-clause-does : goal.returns-in-Drop-clause-does
returns-in-Drop-clause-does g c = λ fit before.
    let ops = g.B.Operations.meaning c.args.m.now in
    let held = g.B.Operations.held c.args.m.now in
    let p = c.args.s.now.p.now in
    rw c.in-Drop.is (does_stepped _ _ before _ c.drop_value.result (c.drop_value.ensures p ops held))

pub returns-in-FinishPlace-clause-does : goal.returns-in-FinishPlace-clause-does
returns-in-FinishPlace-clause-does g c = λ fit before.
    rw c.in-FinishPlace.is (does_stepped _ _ before _ c.finish_place.result (c.finish_place.ensures.does fit))

pub returns-in-Choose-clause-does : goal.returns-in-Choose-clause-does
returns-in-Choose-clause-does g c = λ fit before.
    rw c.in-Choose.is (does_stepped _ _ before _ c.choose.result (c.choose.ensures fit))

pub returns-in-ChoosePlace-clause-does : goal.returns-in-ChoosePlace-clause-does
returns-in-ChoosePlace-clause-does g c = λ fit before.
    rw c.in-ChoosePlace.is (does_stepped _ _ before _ c.choose_place.result (c.choose_place.ensures fit))

pub returns-in-Decide-clause-does : goal.returns-in-Decide-clause-does
returns-in-Decide-clause-does g c = λ fit before.
    rw c.in-Decide.is (does_stepped _ _ before _ c.decide.result (c.decide.ensures fit))

pub returns-in-Begin-clause-does : goal.returns-in-Begin-clause-does
returns-in-Begin-clause-does g c = λ fit before.
    rw c.in-Begin.is (does_stepped _ _ before _ c.begin.result (c.begin.ensures.does fit))

pub returns-in-Return-clause-does : goal.returns-in-Return-clause-does
returns-in-Return-clause-does g c = λ fit before.
    rw c.in-Return.is (does_stepped _ _ before _ c.reach_end.result (c.reach_end.ensures.does))

pub returns-in-Statement-clause-does : goal.returns-in-Statement-clause-does
returns-in-Statement-clause-does g c = λ fit before.
    rw c.in-Statement.is (does_stepped _ _ before _ c.statement.result (c.statement.ensures.does fit.order))

pub returns-in-Rest-clause-does : goal.returns-in-Rest-clause-does
returns-in-Rest-clause-does g c = λ fit before.
    let ops = g.B.Operations.meaning c.args.m.now in
    let held = g.B.Operations.held c.args.m.now in
    rw c.in-Rest.is (does_stepped _ _ before _ c.proceed.result (c.proceed.ensures fit.order ops held))

pub returns-in-Initialize-clause-does : goal.returns-in-Initialize-clause-does
returns-in-Initialize-clause-does g c = λ fit before.
    rw c.in-Initialize.is (does_stepped _ _ before _ c.initialize.result (c.initialize.ensures.does fit))

pub returns-in-Branch-clause-does : goal.returns-in-Branch-clause-does
returns-in-Branch-clause-does g c = λ fit before.
    rw c.in-Branch.is (does_stepped _ _ before _ c.branch-self.result (c.branch-self.ensures fit.order))

pub returns-in-Test-clause-does : goal.returns-in-Test-clause-does
returns-in-Test-clause-does g c = λ fit before.
    let ops = g.B.Operations.meaning c.args.m.now in
    let held = g.B.Operations.held c.args.m.now in
    rw c.in-Test.is (does_stepped _ _ before _ c.to_be_tested.result (c.to_be_tested.ensures fit.order ops held))

pub returns-in-Tested-clause-does : goal.returns-in-Tested-clause-does
returns-in-Tested-clause-does g c = λ fit before.
    rw c.in-Tested.is (does_stepped _ _ before _ c.tested.result (c.tested.ensures fit.order))

pub returns-in-Again-clause-does : goal.returns-in-Again-clause-does
returns-in-Again-clause-does g c = λ fit before.
    let ops = g.B.Operations.meaning c.args.m.now in
    let held = g.B.Operations.held c.args.m.now in
    rw c.in-Again.is (does_stepped _ _ before _ c.again.result (c.again.ensures fit.order ops held))

pub returns-in-Turn-clause-does : goal.returns-in-Turn-clause-does
returns-in-Turn-clause-does g c = λ fit before.
    let ops = g.B.Operations.meaning c.args.m.now in
    let held = g.B.Operations.held c.args.m.now in
    let p = c.args.s.now.p.now in
    rw c.in-Turn.is (does_stepped _ _ before _ c.turned.result (c.turned.ensures p ops held))

pub returns-in-Switch-clause-does : goal.returns-in-Switch-clause-does
returns-in-Switch-clause-does g c = λ fit before.
    rw c.in-Switch.is (does_stepped _ _ before _ c.switch.result (c.switch.ensures.does fit.order))

pub returns-in-Leave-clause-does : goal.returns-in-Leave-clause-does
returns-in-Leave-clause-does g c = λ fit before.
    rw c.in-Leave.is (does_stepped _ _ before _ c.leave_now.result (c.leave_now.ensures.does fit.order))

pub returns-in-Give-clause-does : goal.returns-in-Give-clause-does
returns-in-Give-clause-does g c = λ fit before.
    rw c.in-Give.is (does_stepped _ _ before _ c.give_top.result (c.give_top.ensures.does fit.order))

pub returns-in-One-clause-does : goal.returns-in-One-clause-does
returns-in-One-clause-does g c = λ fit before.
    rw c.in-One.is (does_stepped _ _ before _ c.give_value.result (value_given c.args.s.now.p.now
    (g.B.Operations.held c.args.m.now) c.args.self.now c.give_value.new.self _ c.give_value.result
    c.give_value.ensures))

pub returns-in-Finish-clause-does : goal.returns-in-Finish-clause-does
returns-in-Finish-clause-does g c = λ fit before. rw c.in-Finish.is (c.finish.ensures.does fit before)
