use Rattle.std.proofs.Common.{Bool, sym, ap, ◌∙◌}
use Rattle.std.specs.Prelude.{◌&&◌, not}
use Rattle.c_tree.specs.Types.{bare, is_scalar}
use Rattle.c_expressions.specs.Nodes.{type_in}
use Rattle.c_elab.proofs.Ending.{variable_shown}
use Rattle.c_elab.proofs.bodies.variable.Goals as goal

pub returns-clause-is : goal.returns-clause-is
returns-clause-is c =
    let w = c.args.work.now in
    let k = c.args.k in
    let of = type_in w.nodes c.args.v.of in
    let taken = c.is_taken-taken.result in
    variable_shown w k c.there-of.result c.args.v c.is_simple.result c.there-of.ensures.is
    (c.is_simple.ensures
    ∙ ap (λ (b : Bool). b && not taken)
    (sym c.is_scalar-scalar.ensures ∙ ap is_scalar (c.bare.ensures.is ∙ ap bare c.there-of.ensures.is))
    ∙ ap (λ (b : Bool). is_scalar (bare of) && not b) (c.requires.marks k taken c.is_taken-taken.ensures))
