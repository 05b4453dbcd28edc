use Rattle.std.proofs.Common.{take}
use Rattle.c_passing.specs.Routines.{AreObjects}
use Rattle.c_passing.proofs.program.objects.Given as goal

abbrev pub invariant-loop-g : goal.invariant-loop-g
invariant-loop-g l = AreObjects l.numbers (take l.g-index l.globals) l.list.items
