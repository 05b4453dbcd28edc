use Rattle.c_operators.proofs.services.as_asked.Goals as goal

pub returns-in-Capability : goal.returns-in-Capability
returns-in-Capability c = rw c.in-Capability.is c.capability.ensures

pub returns-in-Int : goal.returns-in-Int
returns-in-Int c = rw c.in-Int.is c.assigned_integer.ensures

pub returns-in-Size : goal.returns-in-Size
returns-in-Size c = rw c.in-Size.is c.assigned_integer-in-Size.ensures
