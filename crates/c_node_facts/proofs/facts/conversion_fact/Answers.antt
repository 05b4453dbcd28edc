use Rattle.std.proofs.Common.{ap}
use Rattle.c_node_facts.specs.declared.facts.Fact.{Fact}
use Rattle.c_node_facts.proofs.Known.{conversion_known, plain_known}
use Rattle.c_node_facts.proofs.facts.conversion_fact.Goals as goal

pub returns : goal.returns
returns c = λ x t p fx h.
    conversion_known c.args.types x t p c.args.a _ _ _ c.is_null-zero.result c.is_null-of_zero.result _ fx h
    (plain_known c.args.types x t p _ _ (ap (λ (f : Fact). f.plain) fx) h c.is_plain.ensures)
    c.is_constant_step-constant.ensures c.converted-value.ensures
    c.is_null-zero.ensures c.is_null-of_zero.ensures c.is_null_conversion.ensures
