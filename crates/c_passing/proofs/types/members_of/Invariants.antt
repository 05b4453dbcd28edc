use Rattle.std.proofs.Common.{take}
use Rattle.c_passing.specs.Numbered.{AreRenumbered}
use Rattle.c_passing.proofs.types.members_of.Given as goal

abbrev pub invariant-loop-m : goal.invariant-loop-m
invariant-loop-m l = AreRenumbered l.numbers (take l.m-index l.members) l.list.items
