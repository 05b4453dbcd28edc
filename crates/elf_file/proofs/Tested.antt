-- What a file that passes the tests of a reader is.
use Rattle.std.proofs.Common.{◌≡◌, ℕ, ◌%◌, ◌≤◌, true, eqb, List, length, take, drop, ap, ◌∙◌, arith}
use Rattle.std.specs.Prelude.{◌&&◌}
use Rattle.std.specs.Str.{bytes_eq}
use Rattle.std.proofs.lemmas.Bool.{and_parts, eqb-true}
use Rattle.std.proofs.lemmas.List.{length-drop, length-take-le}
use Rattle.std.proofs.lemmas.Slice.Eq.{bytes_eq-Decides}
use Rattle.elf_file.specs.declared.headers.Headers.{Headers}
use Rattle.elf_file.specs.Fields.{meets}
use Rattle.elf_file.specs.Headers.{e_ident, section_names, words_at, names_at, end_of, program_headers, section_headers}
use Rattle.elf_file.specs.Headers.{image_words}
use Rattle.elf_file.specs.Image.{lines_ok}
use Rattle.elf_file.specs.Reading.{e_machine, part, image_in, has_ident, sizes_ok, has_tables, has_contents}

pub same_ident : (file : List ℕ) → has_ident file ≡ true → take 16 file ≡ e_ident
unfolding has_ident
same_ident file e = (bytes_eq-Decides (take 16 file) e_ident).0
    (and_parts (bytes_eq (take 16 file) e_ident) (eqb (e_machine file) 243) e).0

pub record TablesAre (h : Headers) (file : List ℕ) : Type 0 where
  pub text : h.text_size % 4 ≡ 0
  pub relocs : h.relocs_size % 40 ≡ 0
  pub lines : h.lines_size % 16 ≡ 0
  pub programs : meets (program_headers h) (drop 64 file) ≡ true
  pub sections : meets (section_headers h) (drop 288 file) ≡ true

pub tables_are : (h : Headers) (file : List ℕ) → has_tables h file ≡ true → TablesAre h file
unfolding has_tables
tables_are h file e =
    let all = and_parts (sizes_ok h && meets (program_headers h) (drop 64 file))
    (meets (section_headers h) (drop 288 file)) e in
    let front = and_parts (sizes_ok h) (meets (program_headers h) (drop 64 file)) all.0 in
    let sizes = and_parts (eqb (h.text_size % 4) 0 && eqb (h.relocs_size % 40) 0) (eqb (h.lines_size % 16) 0) front.0 in
    let two = and_parts (eqb (h.text_size % 4) 0) (eqb (h.relocs_size % 40) 0) sizes.0 in
    record {
      text = eqb-true (h.text_size % 4) 0 two.0;
      relocs = eqb-true (h.relocs_size % 40) 0 two.1;
      lines = eqb-true (h.lines_size % 16) 0 sizes.1;
      programs = front.1;
      sections = all.1;
    }

pub record ContentsAre (h : Headers) (file : List ℕ) : Type 0 where
  pub names : part (names_at h) 54 file ≡ section_names
  pub lines : lines_ok 0 h.text_size (image_in h file).lines ≡ true
  pub words : meets (image_words (image_in h file).version (image_in h file).table h) (drop (words_at h) file) ≡ true

pub contents_are : (h : Headers) (file : List ℕ) → has_contents h file ≡ true → ContentsAre h file
unfolding has_contents
contents_are h file e =
    let i = image_in h file in
    let names = bytes_eq (part (names_at h) 54 file) section_names in
    let all = and_parts (names && lines_ok 0 h.text_size i.lines)
    (meets (image_words i.version i.table h) (drop (words_at h) file)) e in
    let front = and_parts names (lines_ok 0 h.text_size i.lines) all.0 in
    record {
      names = (bytes_eq-Decides (part (names_at h) 54 file) section_names).0 front.0;
      lines = front.1;
      words = all.1;
    }

pub length_text : (h : Headers) (file : List ℕ) → end_of h ≤ length file → length (image_in h file).text ≡ h.text_size
length_text h file room = length-take-le h.text_size (drop 736 file) (omega (arith, room, length-drop 736 file))

pub has_lines : (h : Headers) (file : List ℕ) → end_of h ≤ length file → has_contents h file ≡ true →
    lines_ok 0 (length (image_in h file).text) (image_in h file).lines ≡ true
has_lines h file room e =
    ap (λ (n : ℕ). lines_ok 0 n (image_in h file).lines) (length_text h file room) ∙ (contents_are h file e).lines
