use Rattle.c_types.proofs.Sizing.{size_fits, size_failed}
use Rattle.c_initializers.proofs.sizes.size_of.Goals as goal

pub returns-in-Ok-clause-is : goal.returns-in-Ok-clause-is
returns-in-Ok-clause-is c = λ s h. size_fits _ c.in-Ok.layout (c.in-Ok.ensures.is s h.stands)

pub returns-in-Err-clause-is : goal.returns-in-Err-clause-is
returns-in-Err-clause-is c = λ s h. size_failed _ c.in-Err.field-0 (c.in-Err.ensures.is s h.stands)
