use Rattle.std.proofs.Common.{refl}
use Rattle.std.proofs.lemmas.Result.{IfOk-weaker}
use Rattle.c_expressions.proofs.Growth.{number_has}
use Rattle.c_expressions.proofs.nodes.Nodes.type_number.Goals as goal

pub returns : goal.returns
returns c = IfOk-weaker c.number_of.result _ _
    (λ k h. number_has _ _ k c.args.c c.requires.whole refl refl c.number_of.ensures.adds h c.number_of.ensures.keeps
    c.number_of.ensures.file) c.number_of.ensures.ok
