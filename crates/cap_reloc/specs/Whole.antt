-- Pointers to whole objects, as relocations have them but for their places.
use Rattle.std.specs.Prelude.{ℕ}
use Rattle.c_tree.specs.declared.typed.Literal.{Literal}
use Rattle.obj_mem.specs.Legal.{ObjectNeed, owned_of}
use Rattle.obj_mem.specs.Needs.{literal_need}
use Rattle.cap_reloc.specs.declared.whole_pointers.Pointer.{Pointer}

abbrev pub whole : ObjectNeed → ℕ → Pointer
whole n base = record { base = base; offset = 0; length = owned_of n; perms = n.permissions }

abbrev pub literal_pointer : Literal × ℕ → Pointer
literal_pointer l = whole (literal_need l.0) l.1
