use Rattle.std.proofs.Common.{subst}
use Rattle.plain_programs.specs.Plain.{NonePointed}
use Rattle.plain_programs.proofs.Others.{other_type}
use Rattle.plain_programs.proofs.types.is_type_plain.Goals as goal

pub returns-in-Function : goal.returns-in-Function
returns-in-Function c = λ e.
    rw c.in-Function.is (
      c.is_function_plain.ensures.gives e,
      subst (NonePointed c.args.types.now) c.as_slice.ensures (c.is_function_plain.ensures.params e),
    )

pub returns-in_default : goal.returns-in_default
returns-in_default c = λ e. other_type c.args.types.now c.args.c.now c.in_default.not-Function
