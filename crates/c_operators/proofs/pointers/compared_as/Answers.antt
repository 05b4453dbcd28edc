use Rattle.c_operators.proofs.pointers.compared_as.Goals as goal

pub returns-in-Right : goal.returns-in-Right
returns-in-Right c = rw c.in-Right.is c.compared_right.ensures

pub returns-in-Left : goal.returns-in-Left
returns-in-Left c = rw c.in-Left.is c.compared_left.ensures
