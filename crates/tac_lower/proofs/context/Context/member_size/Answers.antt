use Rattle.std.proofs.Common.{ap, ◌∙◌}
use Rattle.cheri_c_sem.specs.Expressions.{narrowing_of}
use Rattle.tac_lower.proofs.Tabled.{narrowed_is, narrowed_not}
use Rattle.tac_lower.proofs.context.Context.member_size.Goals as goal

pub returns-in-None : goal.returns-in-None
returns-in-None c = λ vars r. ap (narrowing_of c.args.self.p.now vars) c.in-None.ensures

pub returns-in-Member : goal.returns-in-Member
returns-in-Member c = λ vars r small. narrowed_is c.args.self.p.now vars c.args.k _ _ c.in-Some.e.now c.facts.result
    c.in-Some.ensures c.in-Member.is (c.facts.ensures.fits _ r c.in-Some.ensures) small

pub returns-in_default : goal.returns-in_default
returns-in_default c = λ vars r. ap (narrowing_of c.args.self.p.now vars) c.in-Some.ensures
    ∙ narrowed_not c.args.self.p.now vars c.in-Some.e.now.kind c.in-Some.e.now.of c.in_default.not-Member
