use Rattle.std.proofs.Common.{◌≡◌, [], length}
use Rattle.c_elab.specs.Functions.{AreMarked}
use Rattle.c_elab.proofs.bodies.no_marks.Given as goal

abbrev pub invariant-loop-made : goal.invariant-loop-made
invariant-loop-made l = record { marks : AreMarked [] l.marks.items; count : length l.marks.items ≡ l.made }
