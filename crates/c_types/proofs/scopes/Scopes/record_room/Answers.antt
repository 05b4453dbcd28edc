use Rattle.c_types.proofs.Records.{record_room}
use Rattle.c_type_sizes.specs.Sizes.{numbered_extent}
use Rattle.c_types.proofs.scopes.Scopes.record_room.Goals as goal

pub returns : goal.returns
returns c s parts h k =
    record_room s.tags c.args.p.now.types c.args.kind parts c.args.ms.now c.is_union.result c.whole_room.result
    c.is_union.ensures k
    (c.whole_room.ensures c.is_union.result (numbered_extent s.tags c.args.p.now.types) c.args.ms.now
    (c.members_end.ensures.is s h))
