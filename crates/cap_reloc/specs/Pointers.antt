-- Pointers as relocations have them, but for their places.
use Rattle.std.specs.Prelude.{ℕ, ◌+◌, ◌-◌, ◌%◌, ◌^◌, ◌<◌, ◌≤◌, List, [], ◌∷◌, ◌++◌, length, map, slice_index}
use Rattle.std.specs.Prelude.{slice_index_or}
use Rattle.std.specs.List.{zip}
use Rattle.ck_int.specs.Kinds.{kept_of}
use Rattle.cap_ops.specs.Permissions.{data_permissions}
use Rattle.elf_file.specs.declared.image.Reloc.{Reloc}
use Rattle.c_tree.specs.declared.typed.Typed.{Typed}
use Rattle.c_tree.specs.declared.typed.GlobalDef.{GlobalDef}
use Rattle.c_tree.specs.declared.typed.Literal.{Literal}
use Rattle.c_tree.specs.declared.typed.CType.{CType}
use Rattle.c_tree.specs.declared.typed.Link.{Link}
use Rattle.c_tree.specs.declared.typed.Target.{Target}
use Rattle.c_tree.specs.declared.typed.Target.TheVariants as target
use Rattle.obj_mem.specs.declared.map.Map.{Map}
use Rattle.obj_mem.specs.Needs.{global_need}
use Rattle.cap_reloc.specs.declared.whole_pointers.Pointer.{Pointer}
pub use Rattle.cap_reloc.specs.Whole.{whole, literal_pointer}

-- ---- of whole objects, functions and the heap

abbrev pub global_pointer : List CType → GlobalDef × ℕ → Pointer
global_pointer types g = whole (global_need types g.0) g.1

-- of the globals and then of the literals
unfoldable pub object_pointers : Typed → Map → List Pointer
object_pointers p m = map (global_pointer p.types) (zip p.globals m.globals)
    ++ map literal_pointer (zip p.literals m.literals)

-- the word of a sentry has bit 63 set, beside Global and Execute
abbrev pub sentry_word : ℕ
sentry_word = 9223372036854775811

abbrev pub sentry : Map → ℕ → Pointer
sentry m entry = record {
  base = m.text.0;
  offset = (entry + 2 ^ 64 - m.text.0) % 2 ^ 64;
  length = m.text.1;
  perms = sentry_word;
}

abbrev pub heap : Map → Pointer
heap m = record { base = m.heap.0; offset = 0; length = m.heap.1; perms = data_permissions }

-- those of the table, in its order
unfoldable pub table_pointers : Typed → Map → List Pointer
table_pointers p m = object_pointers p m ++ map (sentry m) m.entries ++ heap m ∷ []

-- the bytes in its bounds: their base and how many
abbrev pub extent_of : Pointer → ℕ × ℕ
extent_of c = (c.base, c.length)

-- ---- relocations

abbrev pub stored : ℕ → Pointer → Reloc
stored place c = record { place = place; base = c.base; offset = c.offset; length = c.length; perms = c.perms }

-- of the entries of a table, from a place on
unfoldable pub entries : ℕ → List Pointer → List Reloc
entries place [] = []
entries place (c ∷ cs) = stored place c ∷ entries (place + 16) cs

-- the entry of the table that points to a link's target
abbrev pub entry_of : Typed → Target → ℕ
entry_of p (target.Global g) = g
entry_of p (target.Literal k) = length p.globals + k
entry_of p (target.Fun f) = length p.globals + length p.literals + f

-- a pointer to a part of what the pointer to its target points to; a function has no parts
abbrev pub narrowed : Pointer → Link → Pointer
narrowed c l = record {
  base = (c.base + l.low) % 2 ^ 64;
  offset = (kept_of l.offset + 2 ^ 64 - l.low) % 2 ^ 64;
  length = l.length;
  perms = c.perms;
}

abbrev pub linked : Pointer → Link → Target → Pointer
linked c l (target.Global g) = narrowed c l
linked c l (target.Literal k) = narrowed c l
linked c l (target.Fun f) = c

abbrev pub no_pointer : Pointer
no_pointer = record { base = 0; offset = 0; length = 0; perms = 0 }

abbrev pub pointer_at : List Pointer → ℕ → Pointer
pointer_at cs k = slice_index_or cs k no_pointer

abbrev pub link_reloc : Typed → List Pointer → ℕ → Link → Reloc
link_reloc p cs base l = stored ((base + l.at) % 2 ^ 64) (linked (pointer_at cs (entry_of p l.target)) l l.target)

abbrev pub link_relocs : Typed → List Pointer → GlobalDef × ℕ → List Reloc
link_relocs p cs g = map (link_reloc p cs g.1) g.0.links

-- ---- bytes

-- so many bytes from an address on lie in as many from another on
pub record LieIn (from size base count : ℕ) : Type 0 where
  pub above : from ≤ base
  pub below : base + count ≤ from + size

-- the bytes of objects at their bases do
abbrev pub GlobalsLieIn : (from size : ℕ) → List GlobalDef → List ℕ → Type 0
GlobalsLieIn from size gs bs =
    (k : ℕ) (d : GlobalDef) → k < length gs → LieIn from size (slice_index bs k) (length (slice_index_or gs k d).bytes)

abbrev pub LiteralsLieIn : (from size : ℕ) → List Literal → List ℕ → Type 0
LiteralsLieIn from size ls bs =
    (k : ℕ) (d : Literal) → k < length ls → LieIn from size (slice_index bs k) (length (slice_index_or ls k d).bytes)
