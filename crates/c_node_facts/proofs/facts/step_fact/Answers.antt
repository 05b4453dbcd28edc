use Rattle.std.proofs.Common.{ap}
use Rattle.c_tree.specs.Types.{bare}
use Rattle.c_tree.specs.Terms.{type_of}
use Rattle.c_node_facts.specs.declared.facts.Evaluation.{Evaluation}
use Rattle.c_node_facts.specs.declared.facts.Fact.{Fact}
use Rattle.c_node_facts.proofs.Known.{step_known}
use Rattle.c_node_facts.proofs.facts.step_fact.Goals as goal

pub returns : goal.returns
returns c = λ x t p fx ft.
    step_known c.args.kind x t p c.args.a c.args.of _ _ _ _ _ fx ft
    (c.is_place.ensures x t p (ap (λ (f : Fact). f.place) fx)) (c.is_member.ensures x t p)
    (rw (c.is_constant.ensures t) c.is_constant_step-constant.ensures)
    (c.value-value.ensures (bare t) (bare (type_of x)) (ap (λ (e : Evaluation). e.kind) ft))
    c.is_null.ensures
