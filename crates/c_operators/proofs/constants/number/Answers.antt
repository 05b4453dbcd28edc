use Rattle.std.proofs.Common.{ap}
use Rattle.ck_base.specs.declared.tokens.Integer.{Integer}
use Rattle.ck_base.specs.Literals.{type_of}
use Rattle.c_tree.specs.Terms.{Constant, leaf}
use Rattle.c_tree.specs.Values.{integer_type}
use Rattle.c_tree.specs.Expressions.{gives}
use Rattle.c_expressions.specs.Nodes.{IsOperand}
use Rattle.c_expressions.proofs.Keeping.{answers_is}
use Rattle.c_operators.proofs.Numbers.{integer_is}
use Rattle.c_operators.proofs.constants.number.Goals as goal

pub unreachable-requires : goal.unreachable-requires
unreachable-requires c =
    let e = c.integer_of.ensures.only c.requires.accepted.0 c.requires.accepted.1 in
    let f = c.in-None.is in
    cc

pub returns : goal.returns
returns c =
    answers_is c.args.nodes.now _ _ _ IsOperand _
    (ap (λ (m : Integer). gives (leaf (Constant m.value) (integer_type (type_of m)) c.args.pos) c.args.pos)
    (integer_is c.args.text.now c.in-Some.n c.in-Some.ensures.found)) c.number_with.ensures
