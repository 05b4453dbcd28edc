use Rattle.tac_run.proofs.state.State.serve.Goals as goal

pub returns-in-Malloc : goal.returns-in-Malloc
returns-in-Malloc c = λ p kinds. rw c.in-Malloc.is (c.allocate.ensures p kinds)
