use Rattle.c_initializers.proofs.addresses.derived_of.Goals as goal

pub returns-then-not-from_right-clause-within : goal.returns-then-not-from_right-clause-within
returns-then-not-from_right-clause-within c = λ n a b. c.moved_by.ensures.within n a

pub returns-clause-within : goal.returns-clause-within
returns-clause-within c = λ n a b. c.moved_by-else-minus.ensures.within n b
