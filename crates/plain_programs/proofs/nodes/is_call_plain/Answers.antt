use Rattle.std.proofs.Common.{ap, sym, subst, ◌∙◌}
use Rattle.c_tree.specs.Passed.{by_pointer}
use Rattle.passing_steps.specs.Numbered.{type_in}
use Rattle.plain_programs.specs.Plain.{ValuesPlain}
use Rattle.plain_programs.proofs.Others.{other_kind}
use Rattle.plain_programs.proofs.nodes.is_call_plain.Goals as goal

pub returns-else-by_pointer : goal.returns-else-by_pointer
returns-else-by_pointer c = λ e.
    rw c.in-Call.is (
      ap (λ ts. by_pointer (type_in ts c.args.e.now.of)) (sym c.as_slice.ensures) ∙ sym c.by_pointer.ensures
          ∙ c.if-by_pointer.false,
      subst (ValuesPlain c.args.p.now) c.as_slice-in-Call.ensures (c.are_values_plain.ensures e),
    )

pub returns-in_default : goal.returns-in_default
returns-in_default c = λ e. other_kind c.args.p.now c.args.e.now.kind c.args.e.now.of c.in_default.not-Call
