use Rattle.c_tree.specs.Scopes.{type_extent}
use Rattle.c_type_sizes.proofs.Levels.{none_of, part_past, part_below}
use Rattle.c_type_sizes.proofs.extents.part.Goals as goal

pub returns-then-count-eq0-clause-is : goal.returns-then-count-eq0-clause-is
returns-then-count-eq0-clause-is c tags types seen h =
    none_of (type_extent tags (seen c.args.inner)) c.args.count c.if-count-eq0.true

pub returns-then-inner-t-clause-is : goal.returns-then-inner-t-clause-is
returns-then-inner-t-clause-is c tags types seen h =
    part_past tags types seen c.args.t c.args.inner c.args.count h c.if-inner-t.true

pub returns-else-inner-t-clause-is : goal.returns-else-inner-t-clause-is
returns-else-inner-t-clause-is c tags types seen h =
    part_below tags types seen c.args.t c.args.inner c.args.count h c.if-inner-t.false
