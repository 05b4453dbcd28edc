use Rattle.std.proofs.Common.{take, map}
use Rattle.c_passing.specs.Routines.{written_routine, AreFunctions}
use Rattle.c_passing.proofs.program.functions.Given as goal

abbrev pub invariant-loop-f : goal.invariant-loop-f
invariant-loop-f l = AreFunctions l.whole (map (written_routine l.whole) (take l.f-index l.whole.program.now.funs))
    l.initial.out l.out l.list.items
