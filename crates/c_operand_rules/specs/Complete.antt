-- Whether the state knows the sizes that a rule on operands asks for.
use Rattle.std.specs.Prelude.{Bool, not, ◌&&◌, ◌||◌}
use Rattle.ck_int.specs.declared.kinds.IntOp.{IntOp}
use Rattle.c_tree.specs.Types.{Ty, is_integer, is_pointer, is_scalar, is_function}
use Rattle.c_tree.specs.Scopes.{State, is_complete}
use Rattle.c_tree.specs.Expressions.{is_counted, is_additive}

-- a function, or a complete object type
abbrev pub is_sized : State → Ty → Bool
is_sized s t = is_function t || is_complete s t

-- where something is so, the size is known
abbrev pub if_so : Bool → Bool → Bool
if_so asked known = not asked || known

abbrev pub sum_counted : State → Ty → Ty → Bool
sum_counted st s t = if_so (is_pointer s && is_integer t) (is_counted st s)
    && if_so (is_integer s && is_pointer t) (is_counted st t)

abbrev pub difference_counted : State → Ty → Ty → Bool
difference_counted st s t =
    if_so (is_pointer s && is_scalar t) (is_counted st s) && if_so (is_pointer s && is_pointer t) (is_counted st t)

abbrev pub compound_counted : State → IntOp → Ty → Ty → Bool
compound_counted st o s t = if_so (is_additive o && is_pointer s && is_integer t) (is_counted st s)
