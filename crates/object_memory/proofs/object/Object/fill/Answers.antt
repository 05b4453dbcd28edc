use Rattle.std.proofs.Common.{refl}
use Rattle.object_memory.specs.Views.{cell_of}
use Rattle.object_memory.proofs.Puts.{map_replicate}
use Rattle.object_memory.proofs.object.Object.fill.Goals as goal

pub returns : goal.returns
returns c =
    let cells = c.fill.ensures in
    let values = c.fill-2.ensures in
    let long = c.self.invariant.0 in
    let long' = c.self.invariant.1 in
    let each = map_replicate cell_of c.self.inside.owned c.args.each in
    rw (← c.self.view_is, cells, values, long, long', each, map_replicate) refl
