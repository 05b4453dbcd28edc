use Rattle.std.proofs.Common.{Some, sym, ap, ◌∙◌}
use Rattle.c_tree.specs.declared.typed.CType.TheVariants as ctypes
use Rattle.c_tree.specs.Types.{Function, int, no_types}
use Rattle.c_plain_parts.proofs.MainFunction.{same_past, same_level, not_function}
use Rattle.c_plain_parts.proofs.main_type.is_main_type.Goals as goal

pub is_main_function-requires : goal.is_main_function-requires
is_main_function-requires c =
    c.in-Some.ensures ∙ ap (λ x. Some x) (c.in-Function.is
    ∙ ap (λ ps. ctypes.Function c.in-Function.gives ps) (sym c.as_slice.ensures))

pub returns-in-None : goal.returns-in-None
returns-in-None c = same_past c.args.types.now c.args.k (Function int no_types) c.in-None.ensures

pub returns-in_default : goal.returns-in_default
returns-in_default c = same_level c.args.types.now c.args.k c.in-Some.c.now (Function int no_types) c.in-Some.ensures
    ∙ not_function c.in-Some.c.now _ c.in_default.not-Function
