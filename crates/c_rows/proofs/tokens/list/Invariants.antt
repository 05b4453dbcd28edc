use Rattle.std.proofs.Common.{◌-◌, length}
use Rattle.c_rows.proofs.tokens.list.Given as goal

abbrev pub decreases-loop-next : goal.decreases-loop-next
decreases-loop-next l = length l.tokens.file - l.tokens.at
