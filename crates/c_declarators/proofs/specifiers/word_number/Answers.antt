use Rattle.std.proofs.Common.{sym}
use Rattle.c_tree.specs.Types.{Void}
use Rattle.c_declarators.proofs.Specifying.{no_type}
use Rattle.c_declarators.proofs.specifiers.word_number.Goals as goal

pub returns-in-None : goal.returns-in-None
returns-in-None c = no_type c.args.nodes.now _ c.requires (sym (c.in-None.ensures.is (λ k. Void)))
