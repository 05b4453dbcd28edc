use Rattle.c_elaborator.proofs.Knowing.{no_function, function_known}
use Rattle.c_elaborator.proofs.work.Work.function_type.Goals as goal

pub returns-in-None-clause-is : goal.returns-in-None-clause-is
returns-in-None-clause-is c = no_function c.args.self.now c.args.k (λ s h. c.in-None.ensures s h.stands)

pub returns-in-Some-clause-is : goal.returns-in-Some-clause-is
returns-in-Some-clause-is c =
    function_known c.args.self.now c.args.k c.in-Some.of c.there.result c.there.ensures.is
    (λ s h. c.in-Some.ensures s h.stands)
