-- Where the pointers of a program begin, and which capability a relocation stores there.
use Rattle.std.specs.Prelude.{ℕ, ◌≡◌, ◌+◌, ◌-◌, ◌%◌, ◌^◌, ◌≤◌, nat_le, List, [], ◌∷◌, ◌++◌, map, slice_index}
use Rattle.std.specs.Prelude.{if◌then◌else◌}
use Rattle.std.specs.List.{zip, flat_map}
use Rattle.cap_ops.specs.declared.capability.Cap.{Cap}
use Rattle.cap_ops.specs.declared.capability.TheConstants.{UNSEALED, SENTRY}
use Rattle.cap_ops.specs.Bounded.{bounded}
use Rattle.cap_ops.specs.Permissions.{data_permissions, code_permissions}
use Rattle.elf_file.specs.declared.image.Reloc.{Reloc}
use Rattle.c_tree.specs.declared.typed.Typed.{Typed}
use Rattle.c_tree.specs.declared.typed.GlobalDef.{GlobalDef}
use Rattle.c_tree.specs.declared.typed.Link.{Link}
use Rattle.obj_mem.specs.declared.map.Map.{Map}
use Rattle.obj_mem.specs.Legal.{Needs}
use Rattle.obj_mem.specs.Needs.{needs_of, weight_in}
use Rattle.obj_mem.specs.Values.{Live, Fun}
use Rattle.obj_mem.specs.Table.{Start, Holds, WholeHeap, table_starts, start_of, start_capability, addresses_of}
use Rattle.obj_mem.specs.Table.{object_base}

-- what a program asks of its map
abbrev pub asked_by : Typed → Needs
asked_by p = needs_of (weight_in p) p

-- ---- where they begin

-- a place, and what begins there
pub record Begun : Type 0 where
  pub place : ℕ
  pub start : Start

-- entries of 16 bytes, from a place on
unfoldable pub entries_from : ℕ → List Start → List Begun
entries_from place [] = []
entries_from place (s ∷ ss) = record { place = place; start = s } ∷ entries_from (place + 16) ss

-- the links of a global at its base
abbrev pub link_begun : Needs → ℕ → Link → Begun
link_begun n base l = record { place = base + l.at; start = start_of n l }

abbrev pub links_begun : Needs → GlobalDef × ℕ → List Begun
links_begun n g = map (link_begun n g.1) g.0.links

-- the table's entries, and then the links of the globals in their order
abbrev pub beginning : Typed → Map → List Begun
beginning p m = entries_from m.table.0 (table_starts (asked_by p))
    ++ flat_map (links_begun (asked_by p)) (zip p.globals m.globals)

-- ---- what a relocation stores

-- the capability of its bounds at its address, with bits 0 to 6 of the word as permissions; bit 63 says that it is a
-- sentry
abbrev pub stored_by : Reloc → Cap
stored_by r = bounded r.base (r.base + r.length) (r.perms % 128) (if nat_le (2 ^ 63) r.perms then SENTRY else UNSEALED)
    ((r.base + r.offset) % 2 ^ 64)

-- its bounds, its address counted from their base, and the word
unfoldable pub relocation_of : Map → ℕ → Start → Reloc
relocation_of m place (Holds (Live object low high offset permissions)) =
    record {
      place = place;
      base = object_base m object + low;
      offset = (offset + 2 ^ 64 - low) % 2 ^ 64;
      length = high - low;
      perms = permissions;
    }
relocation_of m place (Holds (Fun f)) =
    record {
      place = place;
      base = m.text.0;
      offset = slice_index m.entries f - m.text.0;
      length = m.text.1;
      perms = 2 ^ 63 + code_permissions;
    }
relocation_of m place WholeHeap =
    record { place = place; base = m.heap.0; offset = 0; length = m.heap.1; perms = data_permissions }
-- nothing begins as an integer, or as a capability without a tag
relocation_of m place (Holds v) = record { place = place; base = 0; offset = 0; length = 0; perms = 0 }

-- It stores, at the place, the capability that the value is under the map, or that of the whole heap
pub record IsRelocation (m : Map) (b : Begun) (r : Reloc) : Type 0 where
  pub is : r ≡ relocation_of m b.place b.start
  pub capability : stored_by r ≡ start_capability (addresses_of m) (object_base m) b.start

-- its place is a granule of so many bytes from an address on
pub record IsInside (from size : ℕ) (r : Reloc) : Type 0 where
  pub aligned : r.place % 16 ≡ 0
  pub above : from ≤ r.place
  pub below : r.place + 16 ≤ from + size
