-- The files of an image.
use Rattle.std.specs.Prelude.{◌≡◌, ℕ, ◌-◌, ◌*◌, ◌<◌, ◌^◌, List, [], ◌∷◌, ◌++◌, length, replicate}
use Rattle.std.specs.List.{flat_map, concat, All}
use Rattle.elf_file.specs.declared.field.Field.{Field}
use Rattle.elf_file.specs.declared.headers.Headers.{Headers}
use Rattle.elf_file.specs.declared.image.Image.{Image}
use Rattle.elf_file.specs.declared.image.Line.{Line}
use Rattle.elf_file.specs.declared.image.Reloc.{Reloc}
use Rattle.elf_file.specs.Fields.{spelled, Fit}
use Rattle.elf_file.specs.Headers.{rounded, e_ident, section_names, words_size, file_header, program_headers}
use Rattle.elf_file.specs.Headers.{section_headers, image_words, count_words}
use Rattle.elf_file.specs.Image.{reloc_fields, line_fields, has_count}

-- the headers that its file has
abbrev pub headers_of : Image → Headers
headers_of i = record {
  entry = i.entry;
  text_base = i.text_base;
  text_size = length i.text;
  initial_base = i.initial_base;
  initial_size = length i.initial;
  heap = i.heap;
  stack = i.stack;
  relocs_size = 40 * length i.relocs;
  lines_size = 16 * length i.lines;
  counted = has_count i;
}

-- the words of .ck_image, in the headers' numbers
abbrev pub words_fields : Image → List Field
words_fields i = image_words i.version i.table (headers_of i) ++ count_words (has_count i) i.count

abbrev pub relocs_bytes : List Reloc → List ℕ
relocs_bytes rs = flat_map (λ r. spelled (reloc_fields r)) rs

abbrev pub lines_bytes : List Line → List ℕ
lines_bytes ls = flat_map (λ l. spelled (line_fields l)) ls

-- how many bytes stand between a part of that size, which begins at a multiple of 16, and the next one
abbrev pub gap_behind : ℕ → ℕ
gap_behind size = rounded size - size

-- what the format leaves open: the flags of the file header, the bytes in the five gaps between the parts, and those
-- after the last part
pub record Rest : Type 0 where
  pub flags : ℕ
  pub text_gap : List ℕ
  pub initial_gap : List ℕ
  pub relocs_gap : List ℕ
  pub lines_gap : List ℕ
  pub words_gap : List ℕ
  pub tail : List ℕ

-- the file, piece by piece
abbrev pub file_with : Rest → Image → List ℕ
file_with r i =
    let h = headers_of i in
    concat
    (e_ident ∷ spelled (file_header h.entry r.flags) ∷ spelled (program_headers h) ∷ spelled (section_headers h)
    ∷ i.text ∷ r.text_gap
    ∷ i.initial ∷ r.initial_gap
    ∷ relocs_bytes i.relocs ∷ r.relocs_gap
    ∷ lines_bytes i.lines ∷ r.lines_gap
    ∷ spelled (words_fields i) ∷ r.words_gap
    ∷ section_names ∷ r.tail ∷ [])

-- zero bytes behind a part of that size
abbrev pub padding : ℕ → List ℕ
padding size = replicate (gap_behind size) 0

-- no flags, zero bytes in the gaps, and nothing after the last part
abbrev pub zeros_for : Image → Rest
zeros_for i =
    let h = headers_of i in
    record {
      flags = 0;
      text_gap = padding h.text_size;
      initial_gap = padding h.initial_size;
      relocs_gap = padding h.relocs_size;
      lines_gap = padding h.lines_size;
      words_gap = padding (words_size h.counted);
      tail = [];
    }

-- the file that is written
abbrev pub file_of : Image → List ℕ
file_of i = file_with (zeros_for i) i

-- the flags have their field, and each gap ends at the next part
pub record IsRestOf (i : Image) (r : Rest) : Type 0 where
  pub flags : r.flags < 2 ^ 32
  pub text_gap : length r.text_gap ≡ gap_behind (length i.text)
  pub initial_gap : length r.initial_gap ≡ gap_behind (length i.initial)
  pub relocs_gap : length r.relocs_gap ≡ gap_behind (40 * length i.relocs)
  pub lines_gap : length r.lines_gap ≡ gap_behind (16 * length i.lines)
  pub words_gap : length r.words_gap ≡ gap_behind (words_size (has_count i))

-- the bytes are a file of the image, whatever the format leaves open
pub record IsFileOf (i : Image) (file : List ℕ) : Type 0 where
  pub rest : Rest
  pub leaves : IsRestOf i rest
  pub is : file ≡ file_with rest i

-- each number of the image fits its field
pub record FitsFields (i : Image) : Type 0 where
  pub words : Fit (words_fields i)
  pub relocs : All (λ r. Fit (reloc_fields r)) i.relocs
  pub lines : All (λ l. Fit (line_fields l)) i.lines
