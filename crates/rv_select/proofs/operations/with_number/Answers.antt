use mir.Val.{SFits}
use Rattle.std.proofs.Common.{w32, rules, ap}
use Rattle.std.proofs.lemmas.Int.{to_z-of_z}
use Rattle.rv_select.specs.declared.operations.Work.TheVariants.{Immediate}
use Rattle.rv_select.specs.Planning.{Second, First}
use Rattle.rv_select.proofs.operations.with_number.Goals as goal

pub returns-in_default-Some-clause-is : goal.returns-in_default-Some-clause-is
returns-in_default-Some-clause-is c =
    let v = c.in_default-Some.v in
    let fits : SFits w32 v = search rules in
    Second v c.in_default-Some.ensures.is (ap (Immediate c.args.op c.args.a) (to_z-of_z w32 v fits))

pub returns-in-Some-None-clause-is : goal.returns-in-Some-None-clause-is
returns-in-Some-None-clause-is c =
    let v = c.in-Some-None.v in
    let fits : SFits w32 v = search rules in
    First v c.in-Some-None.ensures'.is (ap (Immediate c.args.op c.args.b) (to_z-of_z w32 v fits))
