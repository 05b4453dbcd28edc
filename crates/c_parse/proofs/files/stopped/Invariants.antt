use Rattle.std.proofs.Common.{◌<◌}
use Rattle.c_parse.proofs.Checking.{IsAmong}
use Rattle.c_parse.proofs.files.stopped.Given as goal

-- the place is that of one of the tokens
abbrev pub invariant-loop-item : goal.invariant-loop-item
invariant-loop-item l = 0 < l.item-index → IsAmong l.place l.fn.tokens
