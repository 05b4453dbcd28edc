use Rattle.c_tree.specs.Conversions.{converted_term, goes_to}
use Rattle.c_expressions.specs.Nodes.{HasType, term_in}
use Rattle.c_expressions.proofs.Keeping.{given_term, typed_step, type_kept, needed, two_types}
use Rattle.c_expressions.proofs.nodes.Nodes.assigned.Goals as goal

pub returns : goal.returns
returns c =
    let n = c.args.self.now in
    let m = c.goes_to.new.self in
    let x = term_in n c.args.x.node in
    let k = c.in_ok-goes_to.ensures.keeps in
    let t : HasType n m c.bare-target.result _ = record { keeps = k; is = type_kept n m _ _ k c.bare-target.ensures } in
    given_term n _ _ _ _ (typed_step (λ y u. converted_term u y) n m _ c.args.x.node _ _ _ c.requires.operand t
    c.in_ok-converted.ensures)
    (λ s. needed _ 133 c.args.x.first _ s (two_types
    (λ u v. goes_to u v x) n _ _ _ _ _ _ c.bare-target.ensures c.of-of.ensures c.in_ok-goes_to.ensures.is
    c.if-not-branch.false))
