use Rattle.std.proofs.Common.{◌≡◌, drop}
use Rattle.tac_lower.specs.declared.writes.Written.TheVariants.{Nothing}
use Rattle.tac_lower.specs.Trees.{written_in}
use Rattle.tac_lower.specs.Writing.{written_on}
use Rattle.tac_lower.proofs.writes.written_by.Given as goal

abbrev pub invariant-loop-k : goal.invariant-loop-k
invariant-loop-k l =
    written_on (written_in l.table) Nothing l.ks ≡ written_on (written_in l.table) l.w (drop l.k-index l.ks)
