use Rattle.c_tree.specs.Grammar.{predeclared}
use Rattle.std.proofs.Common.{◌++◌, ap, ◌∙◌}
use Rattle.c_parse.proofs.files.predeclared.Goals as goal

pub returns : goal.returns
unfolding predeclared
returns c = c.in_ok-declare_all.ensures ∙ ap (λ v. predeclared ++ v) c.new-types.ensures
