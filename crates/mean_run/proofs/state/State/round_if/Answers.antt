use Rattle.mean_run.proofs.state.State.round_if.Goals as goal

pub returns-then-holds : goal.returns-then-holds
returns-then-holds c = λ p ops held. rw c.if-holds.true (c.goes_round.ensures p ops held)
