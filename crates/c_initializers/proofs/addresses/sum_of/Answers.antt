use Rattle.c_initializers.proofs.addresses.sum_of.Goals as goal

pub returns-then-is_pointer-clause-within : goal.returns-then-is_pointer-clause-within
returns-then-is_pointer-clause-within c = λ n a b. c.moved_by.ensures.within n a

pub returns-else-is_pointer-clause-within : goal.returns-else-is_pointer-clause-within
returns-else-is_pointer-clause-within c = λ n a b. c.moved_by-else-is_pointer.ensures.within n b
