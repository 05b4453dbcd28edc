use Rattle.std.proofs.Common.{subst, map}
use Rattle.c_expressions.specs.Nodes.{type_in}
use Rattle.c_elaborator.specs.Answers.{Answers, quietly}
use Rattle.c_declarators.specs.declared.words.Words.{Words}
use Rattle.c_declarators.specs.Steps.{specified_by}
use Rattle.c_declarators.specs.Parts.{SpecifiedThere, IsSpecified, in_any}
use Rattle.c_declarators.proofs.specifiers.specified.Goals as goal

pub returns : goal.returns
returns c = λ t xs e h.
    subst (λ (x : Words). Answers quietly c.args.work.now c.specified_by.new.work
    (specified_by x t (map (type_in c.args.work.now.nodes) c.args.named.now)) SpecifiedThere
    (in_any IsSpecified) c.specified_by.result) (c.in_ok-words.ensures xs h) (c.specified_by.ensures t e)
