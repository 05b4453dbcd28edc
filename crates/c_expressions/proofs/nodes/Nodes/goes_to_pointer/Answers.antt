use Rattle.c_expressions.specs.Nodes.{type_in, term_in}
use Rattle.c_expressions.proofs.Converting.{goes_to-null}
use Rattle.c_expressions.proofs.Keeping.{tells_same}
use Rattle.c_expressions.proofs.nodes.Nodes.goes_to_pointer.Goals as goal

pub returns-in-None : goal.returns-in-None
returns-in-None c =
    let n = c.args.self.now in
    tells_same n _ _ c.requires.whole (goes_to-null (type_in n c.args.target) (type_in n c.args.of)
    (term_in n c.args.node) _ c.in-None.ensures c.is_null_integer.ensures)
