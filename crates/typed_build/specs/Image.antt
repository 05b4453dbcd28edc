-- The image of a program under a map.
use Rattle.std.specs.Prelude.{ℕ, ◌+◌, List}
use Rattle.elf_file.specs.declared.image.Image.{Image}
use Rattle.elf_file.specs.declared.image.Line.{Line}
use Rattle.elf_file.specs.declared.image.Reloc.{Reloc}
use Rattle.obj_mem.specs.declared.map.Map.{Map}

-- its parts stand where the map says, it is entered so many bytes behind the text's base, and it says its count
abbrev pub image_of : Map → (start : ℕ) → (text : List ℕ) → (base : ℕ) → (initial : List ℕ) → List Reloc → List Line
    → (count : ℕ) → Image
image_of map start text base initial relocs lines count = record {
  version = 2;
  entry = map.text.0 + start;
  text_base = map.text.0;
  text = text;
  initial_base = base;
  initial = initial;
  table = map.table;
  heap = map.heap;
  stack = map.stack;
  relocs = relocs;
  lines = lines;
  count = count;
}
