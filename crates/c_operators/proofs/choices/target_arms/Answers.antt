use Rattle.std.proofs.Common.{◌≡◌, ◌∙◌}
use Rattle.c_tree.specs.Types.{compatible_bare}
use Rattle.c_expressions.specs.Nodes.{type_in}
use Rattle.c_operators.proofs.Choosing.{target_composite, target_void, target_none}
use Rattle.c_operators.proofs.choices.target_arms.Goals as goal

pub returns-in_ok-pointer : goal.returns-in_ok-pointer
returns-in_ok-pointer c =
    let k = c.in_ok-compatible.ensures in
    target_composite c.args.nodes.now c.compatible_bare.new.self _ c.args.s c.args.t _ c.requires.first
    c.requires.second k.keeps (k.is ∙ c.if-compatible.true) c.in_ok-pointer.ensures

pub returns-in_ok-of : goal.returns-in_ok-of
returns-in_ok-of c =
    let k = c.in_ok-compatible.ensures in
    target_void c.args.nodes.now c.compatible_bare.new.self _ c.args.s c.args.t _ c.requires.first c.requires.second
    k.keeps (k.is ∙ c.if-compatible.false) (c.is_either_void-void.ensures ∙ c.if-void.true) c.in_ok-of.ensures

pub returns-else-void : goal.returns-else-void
returns-else-void c =
    let k = c.in_ok-compatible.ensures in
    target_none c.args.nodes.now c.compatible_bare.new.self c.args.s c.args.t k.keeps (k.is ∙ c.if-compatible.false)
    (c.is_either_void-void.ensures ∙ c.if-void.false)
