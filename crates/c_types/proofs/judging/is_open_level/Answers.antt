use Rattle.std.proofs.Common.{sym}
use Rattle.c_types.proofs.Judged.{open_is}
use Rattle.c_types.proofs.judging.is_open_level.Goals as goal

pub returns-in-Array : goal.returns-in-Array
returns-in-Array c ps go = rw c.in-Array.is (sym (open_is (go c.in-Array.field-0) c.in-Array.count))
