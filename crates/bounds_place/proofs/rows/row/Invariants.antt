use Rattle.std.proofs.Common.{◌+◌, drop}
use Rattle.std.specs.Prelude.{sum_by}
use Rattle.bounds_place.specs.Rows.{room, bases_from, end_from}
use Rattle.bounds_place.proofs.Steps.{RowSo}
use Rattle.bounds_place.proofs.rows.row.Given as goal

abbrev pub invariant-loop-n : goal.invariant-loop-n
invariant-loop-n l = RowSo l.bases.items (bases_from l.from l.needs) (bases_from l.next (drop l.n-index l.needs)) l.next
    (end_from l.next (drop l.n-index l.needs)) (end_from l.from l.needs) (l.from + sum_by room l.needs)
    (sum_by room (drop l.n-index l.needs))
