-- The state that an image loads to.
use Rattle.std.specs.Prelude.{ℕ, ◌==◌, true, false, List, [], ◌∷◌, nat_lt, if◌then◌else◌}
use Rattle.std.specs.List.{insert, prefix_len}
use Rattle.cap_ops.specs.declared.capability.Cap.{Cap}
use Rattle.cap_ops.specs.Permissions.{code_permissions}
pub use Rattle.image_load.specs.Extents.{of_extent, registers}
use Rattle.tag_mem.specs.Areas.{Area}
use Rattle.tag_mem.specs.Memory.{written}
use Rattle.tag_mem.specs.Numbers.{little_bytes}
use Rattle.tag_mem.specs.Regions.{fresh}
use Rattle.tag_mem.specs.declared.region.Region.{Region}
use Rattle.cap_machine.specs.declared.machine.Machine.{Machine}
use Rattle.cap_machine.specs.Rows.{memory_bits}
use Rattle.elf_file.specs.declared.image.Image.{Image}
use Rattle.elf_file.specs.declared.image.Reloc.{Reloc}
use Rattle.image_load.specs.Judging.{Extent, segments_of, text_of, capability_of}

-- ---- memory

-- the region of an extent, behind those of lower base; an extent of no bytes has none
abbrev pub region_of : Extent → Region
region_of e = record { base = e.0; length = e.1 }

unfoldable pub with_region : Extent → List Region → List Region
with_region e rs = if e.1 == 0 then rs else insert rs (prefix_len (λ r. nat_lt r.base e.0) rs) (region_of e)

-- the regions of extents, by ascending base
abbrev pub regions_of : List Extent → List Region
regions_of [] = []
regions_of (e ∷ es) = with_region e (regions_of es)

-- each relocation's capability with its tag, later ones over earlier ones
unfoldable pub relocated : List Area → List Reloc → List Area
relocated m [] = m
relocated m (r ∷ rs) = relocated (written m r.place (little_bytes 16 (memory_bits (capability_of r).fields)) true) rs

-- zeros, but for text and initial data; then the relocations
unfoldable pub memory_of : Image → List Area
memory_of i = relocated (written (written (fresh (regions_of (segments_of i))) i.text_base i.text false) i.initial_base
    i.initial false) i.relocs

-- ---- registers

-- c2 has the stack, with its top as address, c3 the table, with its base as address, and the others null
abbrev pub registers_of : Image → List Cap
registers_of i = registers i.stack i.table

-- the counter has the text, at the entry
unfoldable pub machine_of : Image → Machine
machine_of i = record { regs = registers_of i; pc = of_extent (text_of i) code_permissions i.entry; mem = memory_of i }
