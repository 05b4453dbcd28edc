use Rattle.std.proofs.Common.{◌+◌, drop, sym, subst}
use Rattle.std.specs.Prelude.{sum_by, slice_index_or}
use Rattle.bounds_place.specs.Rows.{room, bases_from, end_from}
use Rattle.bounds_place.proofs.Steps.{RowSo, row_step, row_done}
use Rattle.bounds_place.proofs.rows.row.Goals as goal

pub loop-n-preserved : goal.loop-n-preserved
loop-n-preserved c =
    subst (λ v. RowSo v (bases_from c.args.from c.args.needs.now)
    (bases_from (c.rounded-base.result + (slice_index_or c.args.needs.now c.loop-n.n-index
    (record { owned = 0; align = 0 })).owned) (drop (c.loop-n.n-index + 1) c.args.needs.now))
    (c.rounded-base.result + (slice_index_or c.args.needs.now c.loop-n.n-index
    (record { owned = 0; align = 0 })).owned)
    (end_from (c.rounded-base.result + (slice_index_or c.args.needs.now c.loop-n.n-index
    (record { owned = 0; align = 0 })).owned) (drop (c.loop-n.n-index + 1) c.args.needs.now))
    (end_from c.args.from c.args.needs.now) (c.args.from + sum_by room c.args.needs.now)
    (sum_by room (drop (c.loop-n.n-index + 1) c.args.needs.now)))
    (sym c.in_ok-push.ensures.items)
    (row_step c.args.needs.now c.loop-n.n-index c.loop-n.next c.rounded-base.result
    (end_from c.args.from c.args.needs.now) (c.args.from + sum_by room c.args.needs.now) c.loop-n.bases.items
    (bases_from c.args.from c.args.needs.now)
    (record { owned = 0; align = 0 }) c.loop-n-test.true c.rounded-base.ensures.is c.rounded-base.ensures.below
    c.loop-n.invariant)

pub returns-clause-bases : goal.returns-clause-bases
returns-clause-bases c = (row_done c.args.needs.now c.loop-n.n-index c.loop-n.next
    (end_from c.args.from c.args.needs.now) (c.args.from + sum_by room c.args.needs.now) c.loop-n.bases.items
    (bases_from c.args.from c.args.needs.now) c.loop-n-test.false c.loop-n.invariant).0

pub returns-clause-end : goal.returns-clause-end
returns-clause-end c = (row_done c.args.needs.now c.loop-n.n-index c.loop-n.next (end_from c.args.from c.args.needs.now)
    (c.args.from + sum_by room c.args.needs.now) c.loop-n.bases.items
    (bases_from c.args.from c.args.needs.now) c.loop-n-test.false c.loop-n.invariant).1

pub returns-clause-most : goal.returns-clause-most
returns-clause-most c = (row_done c.args.needs.now c.loop-n.n-index c.loop-n.next
    (end_from c.args.from c.args.needs.now) (c.args.from + sum_by room c.args.needs.now) c.loop-n.bases.items
    (bases_from c.args.from c.args.needs.now) c.loop-n-test.false c.loop-n.invariant).2
