use Rattle.std.proofs.Common.{◌≡◌, ◌++◌, take, map}
use Rattle.cap_reloc.specs.Pointers.{link_reloc}
use Rattle.cap_reloc.proofs.relocations.put_links.Given as goal

abbrev pub invariant-loop-l : goal.invariant-loop-l
invariant-loop-l l = l.relocs.items ≡ l.fn.relocs.items
    ++ map (link_reloc l.p l.pointers l.base) (take l.l-index l.links)
