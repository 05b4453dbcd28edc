use Rattle.tac_lower.proofs.Tabled.{TableTo}
use Rattle.tac_lower.proofs.types.type_table.Given as goal

abbrev pub invariant-loop-t : goal.invariant-loop-t
invariant-loop-t l = TableTo l.types l.table.items l.t
