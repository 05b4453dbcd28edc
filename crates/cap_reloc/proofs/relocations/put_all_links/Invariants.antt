use Rattle.std.proofs.Common.{◌≡◌, ◌++◌, take}
use Rattle.std.specs.List.{zip, flat_map}
use Rattle.cap_reloc.specs.Pointers.{link_relocs}
use Rattle.cap_reloc.proofs.relocations.put_all_links.Given as goal

abbrev pub invariant-loop-k : goal.invariant-loop-k
invariant-loop-k l = l.relocs.items ≡ l.fn.relocs.items
    ++ flat_map (link_relocs l.p l.pointers) (take l.k (zip l.globals l.bases))
