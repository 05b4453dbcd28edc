use Rattle.std.proofs.Common.{◌≡◌, ℕ, ◌<◌, length, take, get_or}
use Rattle.c_plain_parts.specs.Placing.{written_at}
use Rattle.c_plain_rules.proofs.bytes.put_all.Given as goal

abbrev pub invariant-loop-x : goal.invariant-loop-x
invariant-loop-x l = (k : ℕ) → k < length l.fn.bytes →
    get_or l.bytes k 0 ≡ written_at k (get_or l.fn.bytes k 0) (take l.x-index l.numbers)
