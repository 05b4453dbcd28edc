use Rattle.std.proofs.Common.{◌+◌, length}
use Rattle.c_tree.specs.declared.typed.FunDef.{FunDef}
use Rattle.c_passing.specs.Routines.{written_routine, HasLocals, IsNamed, named_so_far}
use Rattle.c_passing.proofs.Standing.{named_with}
use Rattle.c_passing.proofs.functions.other_locals.Given as goal

abbrev pub invariant-loop-v : goal.invariant-loop-v
invariant-loop-v l =
    (f : FunDef) → HasLocals l.whole f l.locals →
    IsNamed l.whole f (length f.params) l.initial.into
    (named_so_far (written_routine l.whole f) (length f.params)) →
    IsNamed l.whole f (length f.params + l.v-index) l.into (named_with l.whole f l.v-index)
