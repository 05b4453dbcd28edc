use Rattle.std.proofs.Common.{◌≡◌, ℕ, ◌+◌, ◌<◌, length, take, map, get_or}
use Rattle.std.specs.List.{zip}
use Rattle.cap_reloc.specs.Initial.{byte_of, global_content}
use Rattle.cap_reloc.proofs.bytes.put_globals.Given as goal

abbrev pub invariant-loop-k : goal.invariant-loop-k
invariant-loop-k l = (i : ℕ) → i < length l.fn.bytes →
    get_or l.bytes i 0 ≡ byte_of (get_or l.fn.bytes i 0) (map global_content (take l.k (zip l.globals l.bases)))
    (l.from + i)
