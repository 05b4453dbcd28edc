use Rattle.cap_layout.proofs.Rows.{row_fits}
use Rattle.c_type_sizes.proofs.extents.repeated.Goals as goal

pub returns-else-size-gt-LIMIT-clause-is : goal.returns-else-size-gt-LIMIT-clause-is
returns-else-size-gt-LIMIT-clause-is c k p e =
    row_fits c.args.l c.args.count c.if-size-gt-LIMIT.false c.requires.positive c.requires.align k p e
