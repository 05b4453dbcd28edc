use Rattle.std.proofs.Common.{ap}
use Rattle.std.specs.Prelude.{◌&&◌}
use Rattle.c_tree.specs.Types.{bare}
use Rattle.c_tree.specs.Terms.{Compound, join}
use Rattle.c_tree.specs.Expressions.{is_modifiable, compounds, computed_in, right_of}
use Rattle.c_expressions.specs.Nodes.{term_in}
use Rattle.c_expressions.proofs.Keeping.{type_is, given_operand, computed_right, has_type_is, needed, two_types, two_at}
use Rattle.c_operators.proofs.assignments.compound_of.Goals as goal

pub returns : goal.returns
returns c =
    let n = c.args.nodes.now in
    let x = term_in n c.args.a.node in
    let s = type_is n _ _ _ c.bare-s.ensures (ap bare c.of-of.ensures.is) in
    let o = has_type_is n _ _ _ _ c.in_ok-computed.ensures
    (two_at (computed_in c.args.op) n _ _ _ _ s c.of-t.ensures) in
    given_operand n _ _ _ _
    (computed_right (λ u y z t. join (Compound c.args.op u) y z t c.args.pos)
    (right_of c.args.op) n c.computed_in.new.nodes c.right_of.new.nodes _ _ c.bare-s.result c.args.a.node
    c.args.b.node _ _ _ _
    c.requires.left c.requires.right s o c.in_ok-right.ensures c.in_ok-node.ensures)
    (λ st. needed _ 133 c.args.a.first _ st (two_types
    (λ u v. is_modifiable x && compounds c.args.op u v) n _ _ _ _ _ _ s c.of-t.ensures c.may_compound.ensures
    c.if-not-may_compound.false))
