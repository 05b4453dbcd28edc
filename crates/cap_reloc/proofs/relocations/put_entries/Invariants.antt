use Rattle.std.proofs.Common.{◌≡◌, ◌++◌, take}
use Rattle.cap_reloc.specs.Pointers.{entries}
use Rattle.cap_reloc.proofs.relocations.put_entries.Given as goal

abbrev pub invariant-loop-k : goal.invariant-loop-k
invariant-loop-k l = l.relocs.items ≡ l.fn.relocs.items ++ entries l.table (take l.k l.pointers)
