use Rattle.std.proofs.Common.{◌∙◌}
use Rattle.c_elaborator.proofs.Owning.{no_length, some_length}
use Rattle.c_elaborator.proofs.work.Work.object_length.Goals as goal

pub returns-in-None : goal.returns-in-None
returns-in-None c = no_length c.args.self.now c.args.k (λ s h. c.in-None.ensures s h.stands)

pub returns-in-Some : goal.returns-in-Some
returns-in-Some c = λ s h.
    some_length c.args.self.now c.args.k c.in-Some.of (λ t k. c.in-Some.ensures t k.stands) s h
    ∙ c.type_length.ensures s h
