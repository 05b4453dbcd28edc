use Rattle.std.proofs.Common.{subst}
use Rattle.c_copy.specs.Copying.{AllBelow}
use Rattle.ordered_programs.proofs.types.is_type_ordered.Goals as goal

pub returns-in-Function : goal.returns-in-Function
returns-in-Function c = λ e.
    rw c.in-Function.is (
      c.is_function_below.ensures.gives e,
      subst (AllBelow c.args.k) c.as_slice.ensures (c.is_function_below.ensures.params e),
    )
