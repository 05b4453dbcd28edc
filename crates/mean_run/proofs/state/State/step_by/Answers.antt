use Rattle.mean_run.proofs.state.State.step_by.Goals as goal

pub returns-clause-does : goal.returns-clause-does
returns-clause-does g c = λ vars small x y.
    let made = c.step_change.ensures in
    c.change.ensures.does c.args.s.now.p.now _ _ _ _ x y (made.operation vars small) (made.place vars)
    (made.computed vars)
    made.old
