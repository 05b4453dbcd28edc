-- The image that the parts of a file show.
use Rattle.std.specs.Prelude.{map}
use Rattle.elf_file.specs.declared.image.Image.{Image}
use Rattle.elf_file.specs.declared.parts.Parts.{Parts}
use Rattle.elf_file.specs.Image.{reloc_of, line_of}

abbrev pub image_of : Parts → Image
image_of p = record {
  version = p.version;
  count = p.count;
  entry = p.headers.entry;
  text_base = p.headers.text_base;
  text = p.text.now;
  initial_base = p.headers.initial_base;
  initial = p.initial.now;
  table = p.table;
  heap = p.headers.heap;
  stack = p.headers.stack;
  relocs = map reloc_of p.relocs.now;
  lines = map line_of p.lines.now;
}
