use Rattle.std.proofs.Common.{refl}
use Rattle.std.proofs.lemmas.Result.{IfOk-weaker}
use Rattle.c_expressions.proofs.Growth.{added_has}
use Rattle.c_expressions.proofs.nodes.Nodes.composite.Goals as goal

pub returns : goal.returns
returns c = IfOk-weaker c.composite.result _ _
    (λ k h. added_has c.args.self.now _ k _ c.requires.whole refl refl c.composite.ensures.adds h.0 h.1
    c.composite.ensures.keeps c.composite.ensures.file) c.composite.ensures.ok
