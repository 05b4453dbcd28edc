use Rattle.c_node_facts.proofs.Known.{choice_known}
use Rattle.c_node_facts.proofs.facts.choice_fact.Goals as goal

pub returns : goal.returns
returns c = λ x y z t p fx fy fz ft.
    choice_known x y z t p c.args.a c.args.b c.args.c c.args.of _ _ _ fx fy fz ft c.is_constant_join-constant.ensures
    c.choice-value.ensures c.is_null.ensures
