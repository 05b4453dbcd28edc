use Rattle.std.proofs.Common.{◌≡◌, length}
use Rattle.c_finish.specs.Tables.{IsBlank}
use Rattle.c_finish.proofs.tables.no_places.Given as goal

abbrev pub invariant-loop-made : goal.invariant-loop-made
invariant-loop-made l = record { blank : IsBlank l.v.items; count : length l.v.items ≡ l.made }
