use Rattle.std.proofs.Common.{◌≡◌, true, ◌+◌, ◌*◌, length}
use Rattle.cheri_c_sem.specs.Compatible.{all_agree, agree_within}
use Rattle.mean_types.proofs.compatibility.+compatible.Given as goal

abbrev pub decreases-agree_at : goal.decreases-agree_at
decreases-agree_at l = 3 * l.depth + 2

abbrev pub decreases-agree_within : goal.decreases-agree_within
decreases-agree_within l = 3 * l.depth

abbrev pub decreases-all_agree : goal.decreases-all_agree
decreases-all_agree l = 3 * l.depth + 1

abbrev pub invariant-all_agree-pairs : goal.invariant-all_agree-pairs
invariant-all_agree-pairs l =
    all_agree (agree_within l.depth l.types true) l.left l.others
    ≡ all_agree (agree_within l.depth l.types true) l.ts l.us

abbrev pub decreases-all_agree-pairs : goal.decreases-all_agree-pairs
decreases-all_agree-pairs l = length l.left
