use Rattle.std.proofs.Common.{◌∙◌}
use Rattle.c_elaborator.specs.Answers.{operand_in}
use Rattle.c_tree.specs.Conversions.{is_readable, value_term}
use Rattle.c_tree.specs.Scopes.{give}
use Rattle.c_elaborator.proofs.Checking.{built}
use Rattle.c_elaborator.proofs.Sequencing.{need_true}
use Rattle.c_elaborator.proofs.work.Work.value.Goals as goal

pub returns : goal.returns
returns c =
    let w = c.args.self.now in
    let x = operand_in w c.args.x in
    built w _ _ _ _ c.in_ok-node.ensures
    (λ s k. need_true (is_readable s x.is) 132 x.first (give (record x { is = value_term x.is })) s
    (c.is_readable.ensures s k.stands ∙ c.if-not-is_readable.false))
