use Rattle.std.proofs.Common.{◌≡◌, ◌++◌, take, map}
use Rattle.cap_reloc.specs.Pointers.{sentry}
use Rattle.cap_reloc.proofs.pointers.put_sentries.Given as goal

abbrev pub invariant-loop-entry : goal.invariant-loop-entry
invariant-loop-entry l = l.pointers.items ≡ l.fn.pointers.items ++ map (sentry l.m) (take l.entry-index l.entries)
