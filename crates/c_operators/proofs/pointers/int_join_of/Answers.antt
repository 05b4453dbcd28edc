use Rattle.c_operators.proofs.pointers.int_join_of.Goals as goal

pub returns-in-Add : goal.returns-in-Add
returns-in-Add c = rw c.in-Add.is c.sum_of.ensures

pub returns-in-Sub : goal.returns-in-Sub
returns-in-Sub c = rw c.in-Sub.is c.difference_of.ensures

pub returns-in-Shl : goal.returns-in-Shl
returns-in-Shl c = rw c.in-Shl.is c.shift.ensures

pub returns-in-Shr : goal.returns-in-Shr
returns-in-Shr c = rw c.in-Shr.is c.shift-in-Shr.ensures

pub returns-in-Mul : goal.returns-in-Mul
returns-in-Mul c = rw c.in-Mul.is c.arithmetic.ensures

pub returns-in-Div : goal.returns-in-Div
returns-in-Div c = rw c.in-Div.is c.arithmetic-in-Div.ensures

pub returns-in-Rem : goal.returns-in-Rem
returns-in-Rem c = rw c.in-Rem.is c.arithmetic-in-Rem.ensures

pub returns-in-And : goal.returns-in-And
returns-in-And c = rw c.in-And.is c.arithmetic-in-And.ensures

pub returns-in-Or : goal.returns-in-Or
returns-in-Or c = rw c.in-Or.is c.arithmetic-in-Or.ensures

pub returns-in-Xor : goal.returns-in-Xor
returns-in-Xor c = rw c.in-Xor.is c.arithmetic-in-Xor.ensures
