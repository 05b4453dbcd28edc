use Rattle.std.proofs.Common.{arith}
use Rattle.c_expressions.proofs.Keeping.{has_type_same}
use Rattle.c_declarators.proofs.specifiers.with_const.Goals as goal

pub returns : goal.returns
returns c = has_type_same c.args.nodes.now c.args.t _ c.requires.whole c.requires.there (grind arith)
