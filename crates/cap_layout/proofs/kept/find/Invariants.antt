use Rattle.cap_layout.specs.Kept.{AreLayoutsOf}
use Rattle.cap_layout.proofs.kept.find.Given as goal

abbrev pub invariant-loop : goal.invariant-loop
invariant-loop l = AreLayoutsOf l.types l.found.items
