use Rattle.std.proofs.Common.{◌≡◌}
use Rattle.object_memory.proofs.access.read.Goals as goal

pub returns-then-n-eq16 : goal.returns-then-n-eq16
returns-then-n-eq16 c =
    let e : c.args.n ≡ 16 = c.if-n-eq16.true in
    rw e c.read_pair.ensures
