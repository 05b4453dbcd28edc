use Rattle.std.proofs.Common.{◌∙◌}
use Rattle.c_elaborator.specs.Answers.{operand_in}
use Rattle.c_operand_rules.specs.Complete.{is_sized}
use Rattle.c_tree.specs.Expressions.{gives}
use Rattle.c_tree.specs.Terms.{step, Deref}
use Rattle.c_expressions.specs.Nodes.{type_in}
use Rattle.c_elaborator.proofs.Checking.{built, dereferencing_is}
use Rattle.c_elaborator.proofs.Sequencing.{need_true}
use Rattle.c_elaborator.proofs.work.Work.dereferenced.Goals as goal

pub returns : goal.returns
returns c =
    let w = c.args.self.now in
    let x = (operand_in w c.args.a).is in
    let u = type_in w.nodes c.args.to in
    built w _ _ _ _ c.in_ok-node.ensures
    (λ s k. dereferencing_is u x c.args.pos c.args.first s
    ∙ need_true (is_sized s u) 132 c.args.first (gives (step Deref x u c.args.pos) c.args.first) s
    (c.is_sized.ensures s k.stands ∙ c.if-not-is_sized.false))
