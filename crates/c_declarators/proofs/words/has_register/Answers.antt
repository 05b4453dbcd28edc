use Rattle.std.proofs.Common.{◌∙◌}
use Rattle.c_tree.specs.declared.syntax.SpecifierWord.TheVariants as words
use Rattle.c_declarators.proofs.Counting.{first_stand, register_first}
use Rattle.c_declarators.proofs.words.has_register.Goals as goal

pub returns : goal.returns
returns c = λ xs h. first_stand words.Register c.args.tree.now.nodes c.args.parts.now xs c.first_has.result h
    c.first_has.ensures ∙ register_first xs
