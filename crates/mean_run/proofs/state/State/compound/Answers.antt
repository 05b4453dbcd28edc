use Rattle.mean_run.proofs.state.State.compound.Goals as goal

pub returns-clause-does : goal.returns-clause-does
returns-clause-does g c = λ fit vars small x y.
    let made = c.compound_change.ensures in
    c.change.ensures.does c.args.s.now.p.now _ _ _ _ x y (made.operation fit vars small)
    (made.place vars) made.computed made.old
