use Rattle.std.proofs.Common.{ap}
use Rattle.c_tree.specs.Types.{bare}
use Rattle.c_tree.specs.Terms.{type_of}
use Rattle.c_node_facts.specs.declared.facts.Evaluation.{Evaluation}
use Rattle.c_node_facts.proofs.Known.{join_known}
use Rattle.c_node_facts.proofs.facts.join_fact.Goals as goal

pub returns : goal.returns
returns c = λ go x y t p fx fy ft fl.
    join_known go c.args.kind x y t p c.args.a c.args.b c.args.of c.args.left _ _ _ fx fy ft
    (rw (c.is_constant.ensures go t) c.is_constant_join-constant.ensures)
    (c.value-value.ensures go (bare t) (bare (type_of x)) (bare (type_of y)) (ap (λ (e : Evaluation). e.kind) ft)
    (ap (λ (e : Evaluation). e.kind) fl))
    c.is_null.ensures
