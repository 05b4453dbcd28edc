use Rattle.c_types.proofs.scopes.Scopes.declare_enumeration.Goals as goal

pub returns-then-d-clause-is : goal.returns-then-d-clause-is
returns-then-d-clause-is c p = rw c.if-d.true (c.new_enumeration.ensures.is p)

pub returns-else-d-clause-is : goal.returns-else-d-clause-is
returns-else-d-clause-is c p = rw c.if-d.false (c.name_enumeration.ensures p)
