use Rattle.std.proofs.Common.{length, ap}
use Rattle.c_passing.proofs.Levels.{whole_within}
use Rattle.c_passing.proofs.Naming.{known_all}
use Rattle.c_passing.proofs.names.names_of.Goals as goal

pub returns : goal.returns
returns c = known_all c.args.tree.now _ c.gather.new.names c.in_ok-names.ensures c.in_ok-gather.ensures

pub gather-requires : goal.gather-requires
gather-requires c = whole_within c.args.tree.now (length c.as_slice.result.now) c.requires
    (ap length c.as_slice.ensures)
