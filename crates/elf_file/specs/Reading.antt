-- What a reader of a file is given: the image, or the first refusal. Bytes between the parts and after them are not
-- looked at. The names e_entry, p_vaddr, sh_size and so on are those of ELF64.
use Rattle.std.specs.Prelude.{ℕ, ◌+◌, ◌*◌, ◌/◌, ◌%◌, ◌==◌, ◌&&◌, nat_le, Bool, true, List, length, map, take, drop}
use Rattle.std.specs.Prelude.{Result, Ok, Err, if◌then◌else◌}
use Rattle.std.specs.Simd.{first_chunks}
use Rattle.std.specs.Str.{bytes_eq}
use Rattle.elf_file.specs.declared.headers.Headers.{Headers}
use Rattle.elf_file.specs.declared.image.Image.{Image}
use Rattle.elf_file.specs.declared.refusal.ElfRefusal.{ElfRefusal}
use Rattle.elf_file.specs.declared.refusal.ElfRefusal.TheVariants as refusal
use Rattle.elf_file.specs.Fields.{half_at, word_at, xword_at, meets}
use Rattle.elf_file.specs.Headers.{text_at, initial_at, relocs_at, lines_at, words_at, words_size, names_at, end_of}
use Rattle.elf_file.specs.Headers.{e_ident, section_names, file_header, program_headers, section_headers, image_words}
use Rattle.elf_file.specs.Image.{reloc_of, line_of, lines_ok}

-- ---- the fields that an image chooses

abbrev pub e_machine : List ℕ → ℕ
e_machine file = half_at 18 file

abbrev pub e_entry : List ℕ → ℕ
e_entry file = xword_at 24 file

abbrev pub e_flags : List ℕ → ℕ
e_flags file = word_at 48 file

-- of program header k
abbrev pub p_vaddr : ℕ → List ℕ → ℕ
p_vaddr k file = xword_at (64 + 56 * k + 16) file

abbrev pub p_memsz : ℕ → List ℕ → ℕ
p_memsz k file = xword_at (64 + 56 * k + 40) file

-- of section header k
abbrev pub sh_size : ℕ → List ℕ → ℕ
sh_size k file = xword_at (288 + 64 * k + 32) file

abbrev pub headers_in : List ℕ → Headers
headers_in file = record {
  entry = e_entry file;
  text_base = p_vaddr 0 file;
  text_size = sh_size 1 file;
  initial_base = p_vaddr 1 file;
  initial_size = sh_size 2 file;
  heap = (p_vaddr 2 file, p_memsz 2 file);
  stack = (p_vaddr 3 file, p_memsz 3 file);
  relocs_size = sh_size 3 file;
  lines_size = sh_size 4 file;
  counted = sh_size 5 file == words_size true;
}

-- ---- the image in the parts

abbrev pub part : ℕ → ℕ → List ℕ → List ℕ
part at size file = take size (drop at file)

-- the records of a part, each of so many bytes
abbrev pub records : ℕ → List ℕ → List (List ℕ)
records size bytes = first_chunks size (length bytes / size) bytes

abbrev pub image_in : Headers → List ℕ → Image
image_in h file = record {
  version = xword_at (words_at h) file;
  count = if h.counted then xword_at (words_at h + 96) file else 0;
  entry = h.entry;
  text_base = h.text_base;
  text = part text_at h.text_size file;
  initial_base = h.initial_base;
  initial = part (initial_at h) h.initial_size file;
  table = (xword_at (words_at h + 48) file, xword_at (words_at h + 56) file);
  heap = h.heap;
  stack = h.stack;
  relocs = map reloc_of (records 40 (part (relocs_at h) h.relocs_size file));
  lines = map line_of (records 16 (part (lines_at h) h.lines_size file));
}

-- ---- the tests

-- the identification, which has the class and the byte order, and the machine
unfoldable pub has_ident : List ℕ → Bool
has_ident file = bytes_eq (take 16 file) e_ident && e_machine file == 243

-- all else in the file header, whose entry and flags may be any
unfoldable pub has_file_header : List ℕ → Bool
has_file_header file = meets (file_header (e_entry file) (e_flags file)) (drop 16 file)

-- the sizes are multiples of those of an instruction, a relocation and a line
abbrev pub sizes_ok : Headers → Bool
sizes_ok h = h.text_size % 4 == 0 && h.relocs_size % 40 == 0 && h.lines_size % 16 == 0

-- all else in the tables is what the format says for these numbers, so that segments agree with their sections, and
-- .ck_image has the twelve words, or these and the count
unfoldable pub has_tables : Headers → List ℕ → Bool
has_tables h file = sizes_ok h && meets (program_headers h) (drop 64 file) && meets (section_headers h) (drop 288 file)

-- version 2 has the count, and version 1 does not
abbrev pub version_fits : Bool → ℕ → Bool
version_fits counted version = if counted then version == 2 else version == 1

-- the names are the format's, the lines keep their rules, and the words of .ck_image, whose version, table and count
-- may be any here, agree with the headers
unfoldable pub has_contents : Headers → List ℕ → Bool
has_contents h file =
    let i = image_in h file in
    bytes_eq (part (names_at h) 54 file) section_names && lines_ok 0 h.text_size i.lines
    && meets (image_words i.version i.table h) (drop (words_at h) file)

-- ---- the reading

abbrev pub guard : {A : Type 0} → Bool → ElfRefusal → Result A ElfRefusal → Result A ElfRefusal
guard test refused rest = if test then rest else Err refused

-- once the headers are read: refusals 5, 6 and 3
unfoldable pub reading_parts : Headers → List ℕ → Result Image ElfRefusal
reading_parts h file =
    guard (nat_le (end_of h) (length file)) refusal.Part
    (guard (version_fits h.counted (image_in h file).version) refusal.Version
    (guard (has_contents h file) refusal.Field
    (Ok (image_in h file))))

-- refusals 1, 2, 3, 4 and 3, in this order, and then those of the parts
unfoldable pub reading : List ℕ → Result Image ElfRefusal
reading file =
    guard (nat_le 64 (length file)) refusal.Short
    (guard (has_ident file) refusal.Ident
    (guard (has_file_header file) refusal.Field
    (guard (nat_le text_at (length file)) refusal.Tables
    (guard (has_tables (headers_in file) file) refusal.Field
    (reading_parts (headers_in file) file)))))
