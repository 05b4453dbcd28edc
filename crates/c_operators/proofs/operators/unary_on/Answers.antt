use Rattle.c_operators.proofs.operators.unary_on.Goals as goal

pub returns-in-LogicalNot : goal.returns-in-LogicalNot
returns-in-LogicalNot c = rw c.in-LogicalNot.is c.negated.ensures

pub returns-in-Plus : goal.returns-in-Plus
returns-in-Plus c = rw c.in-Plus.is c.promoted_unary.ensures

pub returns-in-Minus : goal.returns-in-Minus
returns-in-Minus c = rw c.in-Minus.is c.promoted_unary-in-Minus.ensures

pub returns-in-Complement : goal.returns-in-Complement
returns-in-Complement c = rw c.in-Complement.is c.promoted_unary-in-Complement.ensures
