use Rattle.std.proofs.Common.{arith}
use Rattle.cap_concentrate.proofs.Requests.{mask_short, mask_long}
use Rattle.cap_concentrate.proofs.rounding.alignment_mask.Goals as goal

pub returns-then-len-lt4096 : goal.returns-then-len-lt4096
returns-then-len-lt4096 c = mask_short c.args.len (omega arith)

pub returns-else-len-lt4096 : goal.returns-else-len-lt4096
returns-else-len-lt4096 c = mask_long c.args.len _ (omega arith) (omega arith) c.bounds_exponent.ensures.value
