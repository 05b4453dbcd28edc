use Rattle.c_types.proofs.scopes.Scopes.name_tag.Goals as goal

pub returns-in-Recorded-clause-is : goal.returns-in-Recorded-clause-is
returns-in-Recorded-clause-is c p = rw c.in-Recorded.is (c.name_record.ensures.is p)
