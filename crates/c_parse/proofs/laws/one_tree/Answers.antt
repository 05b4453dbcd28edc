use Rattle.c_externals.proofs.StatementsComplete.{one_tree}
use Rattle.c_parse.proofs.laws.one_tree.Goals as goal

pub returns : goal.returns
returns c = λ tokens x y d e. one_tree d e
