use Rattle.c_passing.proofs.statements.returned.Goals as goal

pub of_return-requires : goal.of_return-requires
of_return-requires c = rw c.in-Return.is at c.requires
