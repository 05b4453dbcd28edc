use Rattle.cap_layout.proofs.Rows.{row_fits}
use Rattle.cap_layout.proofs.sizes.repeated.Goals as goal

pub returns-else-size-gt-LIMIT : goal.returns-else-size-gt-LIMIT
returns-else-size-gt-LIMIT c =
    row_fits c.args.l c.args.count c.if-size-gt-LIMIT.false c.requires.positive c.requires.align
