use Rattle.mean_run.proofs.state.State.initialize_of.Goals as goal

pub returns-in-Init-clause-does : goal.returns-in-Init-clause-does
returns-in-Init-clause-does g c = λ fit. rw c.in-Init.is (c.initialized.ensures.does fit)
