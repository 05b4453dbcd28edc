use Rattle.std.proofs.Common.{ap}
use Rattle.std.specs.Prelude.{◌||◌}
use Rattle.c_tree.specs.Types.{Pointer, is_function}
use Rattle.c_tree.specs.Terms.{Address, step}
use Rattle.c_tree.specs.Conversions.{is_place}
use Rattle.c_expressions.specs.Nodes.{term_in}
use Rattle.c_expressions.proofs.Keeping.{given_operand, typed_step, has_type_is, needed, one_type}
use Rattle.c_operators.proofs.assignments.address_of.Goals as goal

pub returns : goal.returns
returns c =
    let n = c.args.nodes.now in
    let x = term_in n c.args.a.node in
    let t = has_type_is n _ _ _ _ c.in_ok-to.ensures (ap Pointer c.of-of.ensures.is) in
    given_operand n _ _ _ _
    (typed_step (λ y u. step Address y u c.args.pos) n c.pointer_to.new.self _ c.args.a.node _ _ _ c.requires.operand t
    c.in_ok-node.ensures)
    (λ s. needed _ 133 c.args.pos _ s (one_type
    (λ u. is_place x || is_function u) n _ _ _ _ c.of-of.ensures c.has_address.ensures
    c.if-not-has_address.false))
