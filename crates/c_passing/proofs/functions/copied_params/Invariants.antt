use Rattle.c_tree.specs.declared.typed.FunDef.{FunDef}
use Rattle.c_passing.specs.Routines.{written_routine, HasParams, IsNamed, named_so_far}
use Rattle.c_passing.proofs.functions.copied_params.Given as goal

abbrev pub invariant-loop-k : goal.invariant-loop-k
invariant-loop-k l =
    (f : FunDef) → HasParams l.whole f l.params →
    IsNamed l.whole f 0 l.initial.into (named_so_far (written_routine l.whole f) 0) →
    IsNamed l.whole f l.k l.into (named_so_far (written_routine l.whole f) l.k)
