use Rattle.std.proofs.Common.{sym, ap, ◌∙◌}
use Rattle.c_tree.specs.Initializers.{with_count}
use Rattle.c_expressions.specs.Nodes.{type_in}
use Rattle.c_expressions.proofs.Keeping.{has_type_same}
use Rattle.c_initializers.proofs.PlaceLaws.{with_count-known, with_count-other}
use Rattle.c_initializers.proofs.counts.with_count.Goals as goal

pub returns-else-length-eq0 : goal.returns-else-length-eq0
returns-else-length-eq0 c =
    let n = c.args.nodes.now in
    let e = c.in-Array.ensures.is in
    has_type_same n c.args.of (with_count (type_in n c.args.of) c.args.count) c.requires.whole c.requires.there
    (e ∙ sym (with_count-known (type_in n c.in-Array.element) c.in-Array.length c.args.count c.if-length-eq0.false)
    ∙ ap (λ t. with_count t c.args.count) (sym e))

pub returns-in_default : goal.returns-in_default
returns-in_default c =
    let n = c.args.nodes.now in
    let e = c.class.ensures.is in
    has_type_same n c.args.of (with_count (type_in n c.args.of) c.args.count) c.requires.whole c.requires.there
    (e ∙ sym (with_count-other c.class.result (type_in n) c.class.ensures.params c.args.count c.in_default.not-Array)
    ∙ ap (λ t. with_count t c.args.count) (sym e))
