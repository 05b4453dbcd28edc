use Rattle.c_operators.proofs.pointers.infix_join_of.Goals as goal

pub returns-in-Int : goal.returns-in-Int
returns-in-Int c = rw c.in-Int.is c.int_join_of.ensures

pub returns-in-Compare : goal.returns-in-Compare
returns-in-Compare c = rw c.in-Compare.is c.compared.ensures

pub returns-in-And : goal.returns-in-And
returns-in-And c = rw c.in-And.is c.conjunction.ensures

pub returns-in-Or : goal.returns-in-Or
returns-in-Or c = rw c.in-Or.is c.disjunction.ensures

pub returns-in-Comma : goal.returns-in-Comma
returns-in-Comma c = rw c.in-Comma.is c.comma.ensures
