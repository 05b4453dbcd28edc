-- A file of an image is read as that image.
use Rattle.std.proofs.Common.{◌≡◌, ℕ, ◌+◌, ◌-◌, ◌*◌, ◌%◌, ◌^◌, ◌<◌, ◌≤◌, Bool, true, eqb, leb, List, [], ◌∷◌, ◌++◌}
use Rattle.std.proofs.Common.{length, get_or, take, drop, Result, Ok, Err, subst, Vec, Global, inl, inr, refl, sym, ap}
use Rattle.std.proofs.Common.{◌∙◌, arith, eq-eqb}
use Rattle.std.specs.Prelude.{◌&&◌, ◌⊎◌, false, map, IfOk, OnOk, if◌then◌else◌}
use Rattle.std.specs.Str.{bytes_eq}
use Rattle.std.proofs.lemmas.Bool.{le-leb, and_from, ne_eqb}
use Rattle.std.proofs.lemmas.List.{take_at, drop_at, drop-drop, length-append, length-drop, length-replicate}
use Rattle.elf_file.specs.declared.field.Field.{Field}
use Rattle.elf_file.specs.declared.field.Field.TheVariants.{Half, Word, Xword}
use Rattle.elf_file.specs.declared.headers.Headers.{Headers}
use Rattle.elf_file.specs.declared.image.Image.{Image}
use Rattle.elf_file.specs.declared.image.Line.{Line}
use Rattle.elf_file.specs.declared.image.Reloc.{Reloc}
use Rattle.elf_file.specs.declared.refusal.ElfRefusal.{ElfRefusal}
use Rattle.elf_file.specs.declared.refusal.ElfRefusal.TheVariants as refusal
use Rattle.elf_file.specs.Fields.{spelled, size_of, xword_at, meets, Fit}
use Rattle.elf_file.specs.File.{Rest, zeros_for, file_of, file_with, headers_of, words_fields, gap_behind, relocs_bytes}
use Rattle.elf_file.specs.File.{lines_bytes, IsRestOf, IsFileOf, FitsFields}
use Rattle.elf_file.specs.Headers.{rounded, e_ident, section_names, text_at, initial_at, relocs_at, lines_at, words_at}
use Rattle.elf_file.specs.Headers.{words_size, names_at, end_of, file_header, program_header, section_header}
use Rattle.elf_file.specs.Headers.{program_headers, section_headers, image_words, count_words}
use Rattle.elf_file.specs.Image.{reloc_of, line_of, lines_ok, has_count, KeepsRules}
use Rattle.elf_file.specs.Reading.{e_machine, e_entry, e_flags, sh_size, headers_in, part, records, image_in, has_ident}
use Rattle.elf_file.specs.Reading.{has_file_header, sizes_ok, has_tables, version_fits, has_contents, guard}
use Rattle.elf_file.specs.Reading.{reading_parts, reading}
use Rattle.elf_file.proofs.Lines.{test_from_rules, starts_from_none}
use Rattle.elf_file.proofs.Records.{length-relocs_bytes, relocs_again, length-lines_bytes, lines_again}
use Rattle.elf_file.proofs.Runs.{length_spelled, spelled-append, meets_again, field_in, Fit-append, Fit-front}
use Rattle.elf_file.proofs.Sizes.{size_of_file_header, size_of_program_headers, size_of_section_headers, size_of_words}
use Rattle.elf_file.proofs.Sizes.{words_size_most}

-- ---- the headers fit

file_header_fits : (entry flags : ℕ) → entry < 2 ^ 64 → flags < 2 ^ 32 → Fit (file_header entry flags)
unfolding file_header Fit
file_header_fits entry flags a b = (
  omega arith,
  (
    omega arith,
    (
      omega arith,
      (
        a,
        (
          omega arith,
          (
            omega arith,
            (
              b,
              (
                omega arith,
                (omega arith, (omega arith, (omega arith, (omega arith, (omega arith, tt))))),
              ),
            ),
          ),
        ),
      ),
    ),
  ),
)

program_header_fits : (flags offset base file_size memory_size : ℕ) → flags < 8 → offset < 2 ^ 64 → base < 2 ^ 64 →
    file_size < 2 ^ 64 → memory_size < 2 ^ 64
    → Fit (program_header flags offset base file_size memory_size)
unfolding Fit
program_header_fits flags offset base file_size memory_size a b c d e =
    (omega arith, (omega arith, (b, (c, (c, (d, (e, (omega arith, tt))))))))

section_header_fits : (name kind flags base offset size align : ℕ) → name < 64 → kind < 8 → flags < 8 → base < 2 ^ 64 →
    offset < 2 ^ 64 → size < 2 ^ 64 → align < 32
    → Fit (section_header name kind flags base offset size align)
unfolding Fit
section_header_fits name kind flags base offset size align a b c d e f g = (
  omega arith,
  (
    omega arith,
    (omega arith, (d, (e, (f, (omega arith, (omega arith, (omega arith, (omega arith, tt)))))))),
  ),
)

-- each number of the headers fits its eight bytes
record HeadersFit (h : Headers) : Type 0 where
  entry : h.entry < 2 ^ 64
  text_base : h.text_base < 2 ^ 64
  initial_base : h.initial_base < 2 ^ 64
  heap_base : h.heap.0 < 2 ^ 64
  heap_size : h.heap.1 < 2 ^ 64
  stack_base : h.stack.0 < 2 ^ 64
  stack_size : h.stack.1 < 2 ^ 64
  end : end_of h < 2 ^ 64

program_headers_fit : (h : Headers) → HeadersFit h → Fit (program_headers h)
unfolding program_headers
program_headers_fit h k =
    let end = k.end in
    let text = program_header 5 736 h.text_base h.text_size h.text_size in
    let initial = program_header 6 (initial_at h) h.initial_base h.initial_size h.initial_size in
    let heap = program_header 6 0 h.heap.0 0 h.heap.1 in
    let stack = program_header 6 0 h.stack.0 0 h.stack.1 in
    Fit-append (text ++ initial ++ heap) stack
    (Fit-append (text ++ initial) heap
    (Fit-append text initial
    (program_header_fits 5 736 h.text_base h.text_size h.text_size (omega arith) (omega arith) k.text_base (omega arith)
    (omega arith))
    (program_header_fits 6 (initial_at h) h.initial_base h.initial_size h.initial_size (omega arith)
    (omega arith) k.initial_base (omega arith) (omega arith)))
    (program_header_fits 6 0 h.heap.0 0 h.heap.1 (omega arith) (omega arith) k.heap_base (omega arith) k.heap_size))
    (program_header_fits 6 0 h.stack.0 0 h.stack.1 (omega arith) (omega arith) k.stack_base (omega arith) k.stack_size)

section_headers_fit : (h : Headers) → HeadersFit h → Fit (section_headers h)
unfolding section_headers
section_headers_fit h k =
    let end = k.end in
    let none = section_header 0 0 0 0 0 0 0 in
    let text = section_header 1 1 6 h.text_base 736 h.text_size 16 in
    let initial = section_header 7 1 3 h.initial_base (initial_at h) h.initial_size 16 in
    let relocs = section_header 13 1 0 0 (relocs_at h) h.relocs_size 16 in
    let lines = section_header 24 1 0 0 (lines_at h) h.lines_size 16 in
    let long = words_size_most h.counted in
    let words = section_header 34 1 0 0 (words_at h) (words_size h.counted) 16 in
    let names = section_header 44 3 0 0 (names_at h) 54 16 in
    Fit-append (none ++ text ++ initial ++ relocs ++ lines ++ words) names
    (Fit-append (none ++ text ++ initial ++ relocs ++ lines) words
    (Fit-append (none ++ text ++ initial ++ relocs) lines
    (Fit-append (none ++ text ++ initial) relocs
    (Fit-append (none ++ text) initial
    (Fit-append none text
    (section_header_fits 0 0 0 0 0 0 0 (omega arith) (omega arith) (omega arith) (omega arith) (omega arith)
    (omega arith) (omega arith))
    (section_header_fits 1 1 6 h.text_base 736 h.text_size 16 (omega arith) (omega arith) (omega arith) k.text_base
    (omega arith) (omega arith) (omega arith)))
    (section_header_fits 7 1 3 h.initial_base (initial_at h) h.initial_size 16 (omega arith) (omega arith)
    (omega arith) k.initial_base (omega arith) (omega arith) (omega arith)))
    (section_header_fits 13 1 0 0 (relocs_at h) h.relocs_size 16 (omega arith) (omega arith) (omega arith) (omega arith)
    (omega arith) (omega arith) (omega arith)))
    (section_header_fits 24 1 0 0 (lines_at h) h.lines_size 16 (omega arith) (omega arith) (omega arith) (omega arith)
    (omega arith) (omega arith) (omega arith)))
    (section_header_fits 34 1 0 0 (words_at h) (words_size h.counted) 16 (omega arith) (omega arith) (omega arith)
    (omega arith) (omega arith) (omega arith) (omega arith)))
    (section_header_fits 44 3 0 0 (names_at h) 54 16 (omega arith) (omega arith) (omega arith) (omega arith)
    (omega arith) (omega arith) (omega arith))

headers_fit : (i : Image) → FitsFields i → end_of (headers_of i) < 2 ^ 64 → HeadersFit (headers_of i)
unfolding image_words Fit
headers_fit i f end =
    let w = f.words in
    record {
      entry = w.1.0;
      text_base = w.1.1.0;
      initial_base = w.1.1.1.1.0;
      heap_base = w.1.1.1.1.1.1.1.1.0;
      heap_size = w.1.1.1.1.1.1.1.1.1.0;
      stack_base = w.1.1.1.1.1.1.1.1.1.1.0;
      stack_size = w.1.1.1.1.1.1.1.1.1.1.1.0;
      end = end;
    }

-- ---- the file

-- the file from its names, its words, its lines, its relocations, its initial bytes, its text and each table on
abbrev pub names_on : Rest → Image → List ℕ
names_on r i = section_names ++ (r.tail ++ [])

abbrev pub words_on : Rest → Image → List ℕ
words_on r i = spelled (words_fields i) ++ (r.words_gap ++ names_on r i)

abbrev pub lines_on : Rest → Image → List ℕ
lines_on r i = lines_bytes i.lines ++ (r.lines_gap ++ words_on r i)

abbrev pub relocs_on : Rest → Image → List ℕ
relocs_on r i = relocs_bytes i.relocs ++ (r.relocs_gap ++ lines_on r i)

abbrev pub initial_on : Rest → Image → List ℕ
initial_on r i = i.initial ++ (r.initial_gap ++ relocs_on r i)

abbrev pub text_on : Rest → Image → List ℕ
text_on r i = i.text ++ (r.text_gap ++ initial_on r i)

abbrev pub sections_on : Rest → Image → List ℕ
sections_on r i = spelled (section_headers (headers_of i)) ++ text_on r i

abbrev pub programs_on : Rest → Image → List ℕ
programs_on r i = spelled (program_headers (headers_of i)) ++ sections_on r i

abbrev pub header_on : Rest → Image → List ℕ
header_on r i = spelled (file_header i.entry r.flags) ++ programs_on r i

ident_long : length e_ident ≡ 16
unfolding e_ident
ident_long = refl

names_long : length section_names ≡ 54
unfolding section_names
names_long = refl

length_words : (i : Image) → length (spelled (words_fields i)) ≡ words_size (has_count i)
length_words i = length_spelled (words_fields i) ∙ size_of_words i.version i.table (headers_of i) (has_count i) i.count

-- ---- where the pieces are

-- behind a piece of a known size
behind : (size : ℕ) (file : List ℕ) (at : ℕ) (p rest : List ℕ) → drop at file ≡ p ++ rest → length p ≡ size →
    drop (at + size) file ≡ rest
behind size file at p rest e long = sym (drop-drop size at file) ∙ ap (drop size) e ∙ drop_at p rest size long

header_from : (r : Rest) (i : Image) → drop 16 (file_with r i) ≡ header_on r i
header_from r i = drop_at e_ident (header_on r i) 16 ident_long

programs_from : (r : Rest) (i : Image) → drop 64 (file_with r i) ≡ programs_on r i
programs_from r i =
    behind 48 (file_with r i) 16 (spelled (file_header i.entry r.flags)) (programs_on r i) (header_from r i)
    (length_spelled (file_header i.entry r.flags) ∙ size_of_file_header i.entry r.flags)

sections_from : (r : Rest) (i : Image) → drop 288 (file_with r i) ≡ sections_on r i
sections_from r i =
    let h = headers_of i in
    behind 224 (file_with r i) 64 (spelled (program_headers h)) (sections_on r i) (programs_from r i)
    (length_spelled (program_headers h) ∙ size_of_program_headers h)

text_from : (r : Rest) (i : Image) → drop 736 (file_with r i) ≡ text_on r i
text_from r i =
    let h = headers_of i in
    behind 448 (file_with r i) 288 (spelled (section_headers h)) (text_on r i) (sections_from r i)
    (length_spelled (section_headers h) ∙ size_of_section_headers h)

-- a part at a multiple of 16, and what stands at the next one
part_from : (at size : ℕ) (file p gap rest : List ℕ) → drop at file ≡ p ++ (gap ++ rest) → at % 16 ≡ 0 →
    length p ≡ size → length gap ≡ gap_behind size
    → (part at size file ≡ p) × (drop (rounded (at + size)) file ≡ rest)
part_from at size file p gap rest e whole long gap_long =
    let next : rounded (at + size) ≡ at + size + length gap = omega arith in (
      ap (take size) e ∙ take_at p (gap ++ rest) size long,
      ap (λ (n : ℕ). drop n file) next
          ∙ behind (length gap) file (at + size) gap rest (behind size file at p (gap ++ rest) e long) refl,
    )

record Parts (r : Rest) (i : Image) : Type 0 where
  text : part text_at (length i.text) (file_with r i) ≡ i.text
  initial : part (initial_at (headers_of i)) (length i.initial) (file_with r i) ≡ i.initial
  relocs : part (relocs_at (headers_of i)) (40 * length i.relocs) (file_with r i) ≡ relocs_bytes i.relocs
  lines : part (lines_at (headers_of i)) (16 * length i.lines) (file_with r i) ≡ lines_bytes i.lines
  words : drop (words_at (headers_of i)) (file_with r i) ≡ words_on r i
  names : part (names_at (headers_of i)) 54 (file_with r i) ≡ section_names
  names_from : drop (names_at (headers_of i)) (file_with r i) ≡ names_on r i

parts : (r : Rest) (i : Image) → IsRestOf i r → Parts r i
parts r i k =
    let f = file_with r i in
    let h = headers_of i in
    let a = part_from text_at h.text_size f i.text r.text_gap (initial_on r i) (text_from r i) refl refl k.text_gap in
    let b = part_from (initial_at h) h.initial_size f i.initial r.initial_gap (relocs_on r i) a.1
    (omega arith) refl k.initial_gap in
    let c = part_from (relocs_at h) h.relocs_size f (relocs_bytes i.relocs) r.relocs_gap (lines_on r i) b.1
    (omega arith) (length-relocs_bytes i.relocs) k.relocs_gap in
    let d = part_from (lines_at h) h.lines_size f (lines_bytes i.lines) r.lines_gap (words_on r i) c.1 (omega arith)
    (length-lines_bytes i.lines) k.lines_gap in
    let words_long : length (spelled (words_fields i)) ≡ words_size h.counted = length_words i in
    let e = part_from (words_at h) (words_size h.counted) f (spelled (words_fields i)) r.words_gap (names_on r i) d.1
    (omega arith) words_long k.words_gap in
    record {
      text = a.0;
      initial = b.0;
      relocs = c.0;
      lines = d.0;
      words = d.1;
      names = ap (take 54) e.1 ∙ take_at section_names (r.tail ++ []) 54 names_long;
      names_from = e.1;
    }

-- the file has all its parts
length_file : (r : Rest) (i : Image) → IsRestOf i r → end_of (headers_of i) ≤ length (file_with r i)
length_file r i k =
    let f = file_with r i in
    let h = headers_of i in
    let from : length (drop (names_at h) f) ≡ length f - names_at h = length-drop (names_at h) f in
    let on : length (drop (names_at h) f) ≡ length (names_on r i) = ap length (parts r i k).names_from in
    let b = length-append section_names (r.tail ++ []) in
    omega (arith, from, on, b, names_long)

-- ---- the headers are read again

same_headers : (g h : Headers) → g.entry ≡ h.entry → g.text_base ≡ h.text_base → g.text_size ≡ h.text_size →
    g.initial_base ≡ h.initial_base → g.initial_size ≡ h.initial_size
    → g.heap.0 ≡ h.heap.0 → g.heap.1 ≡ h.heap.1 → g.stack.0 ≡ h.stack.0 → g.stack.1 ≡ h.stack.1 →
    g.relocs_size ≡ h.relocs_size → g.lines_size ≡ h.lines_size → g.counted ≡ h.counted → g ≡ h
same_headers g h a b c d e l m n o p q s =
    ap (λ (x : ℕ). record g { entry = x }) a
    ∙ ap (λ (x : ℕ). record g { entry = h.entry; text_base = x }) b
    ∙ ap (λ (x : ℕ). record g { entry = h.entry; text_base = h.text_base; text_size = x }) c
    ∙ ap (λ (x : ℕ). record g { entry = h.entry; text_base = h.text_base; text_size = h.text_size; initial_base = x }) d
    ∙ ap (λ (x : ℕ). record g {
      entry = h.entry;
      text_base = h.text_base;
      text_size = h.text_size;
      initial_base = h.initial_base;
      initial_size = x;
    }) e
    ∙ ap (λ (x : ℕ). record h {
      heap = (x, g.heap.1);
      stack = g.stack;
      relocs_size = g.relocs_size;
      lines_size = g.lines_size;
      counted = g.counted;
    }) l
    ∙ ap (λ (x : ℕ). record h {
      heap = (h.heap.0, x);
      stack = g.stack;
      relocs_size = g.relocs_size;
      lines_size = g.lines_size;
      counted = g.counted;
    }) m
    ∙ ap (λ (x : ℕ). record h {
      stack = (x, g.stack.1);
      relocs_size = g.relocs_size;
      lines_size = g.lines_size;
      counted = g.counted;
    }) n
    ∙ ap (λ (x : ℕ). record h {
      stack = (h.stack.0, x);
      relocs_size = g.relocs_size;
      lines_size = g.lines_size;
      counted = g.counted;
    }) o
    ∙ ap (λ (x : ℕ). record h { relocs_size = x; lines_size = g.lines_size; counted = g.counted }) p
    ∙ ap (λ (x : ℕ). record h { lines_size = x; counted = g.counted }) q
    ∙ ap (λ (x : Bool). record h { counted = x }) s

module _ (r : Rest) (i : Image) (k : IsRestOf i r) (fits : FitsFields i) (rules : KeepsRules i)
    (end : end_of (headers_of i) < 2 ^ 64) where
  header_fit : Fit (file_header i.entry r.flags)
  header_fit = file_header_fits i.entry r.flags (headers_fit i fits end).entry k.flags

  programs_fit : Fit (program_headers (headers_of i))
  programs_fit = program_headers_fit (headers_of i) (headers_fit i fits end)

  sections_fit : Fit (section_headers (headers_of i))
  sections_fit = section_headers_fit (headers_of i) (headers_fit i fits end)

  machine_again : e_machine (file_with r i) ≡ 243
  unfolding size_of file_header
  machine_again = field_in (file_header i.entry r.flags) (file_with r i) (programs_on r i) 16 18 1 (Half 243)
      (header_from r i) header_fit (omega arith) refl refl

  entry_again : e_entry (file_with r i) ≡ i.entry
  unfolding size_of file_header
  entry_again = field_in (file_header i.entry r.flags) (file_with r i) (programs_on r i) 16 24 3 (Xword i.entry)
      (header_from r i) header_fit (omega arith) refl refl

  flags_again : e_flags (file_with r i) ≡ r.flags
  unfolding size_of file_header
  flags_again = field_in (file_header i.entry r.flags) (file_with r i) (programs_on r i) 16 48 6 (Word r.flags)
      (header_from r i) header_fit (omega arith) refl refl

  -- a field of the program headers, and one of the section headers
  program_field : (place n v : ℕ) → n < 32 → 64 + size_of (take n (program_headers (headers_of i))) ≡ place →
      get_or (program_headers (headers_of i)) n (Half 0) ≡ Xword v → xword_at place (file_with r i) ≡ v
  unfolding program_headers
  program_field place n v lt at is =
      field_in (program_headers (headers_of i)) (file_with r i) (sections_on r i) 64 place n (Xword v)
      (programs_from r i) programs_fit lt at is

  section_field : (place n v : ℕ) → n < 70 → 288 + size_of (take n (section_headers (headers_of i))) ≡ place →
      get_or (section_headers (headers_of i)) n (Half 0) ≡ Xword v → xword_at place (file_with r i) ≡ v
  unfolding section_headers
  section_field place n v lt at is =
      field_in (section_headers (headers_of i)) (file_with r i) (text_on r i) 288 place n (Xword v)
      (sections_from r i) sections_fit lt at is

  headers_again : headers_in (file_with r i) ≡ headers_of i
  unfolding size_of program_headers section_headers
  headers_again =
      let h = headers_of i in
      same_headers (headers_in (file_with r i)) h
      entry_again
      (program_field 80 3 h.text_base (omega arith) refl refl)
      (section_field 384 15 h.text_size (omega arith) refl refl)
      (program_field 136 11 h.initial_base (omega arith) refl refl)
      (section_field 448 25 h.initial_size (omega arith) refl refl)
      (program_field 192 19 h.heap.0 (omega arith) refl refl)
      (program_field 216 22 h.heap.1 (omega arith) refl refl)
      (program_field 248 27 h.stack.0 (omega arith) refl refl)
      (program_field 272 30 h.stack.1 (omega arith) refl refl)
      (section_field 512 35 h.relocs_size (omega arith) refl refl)
      (section_field 576 45 h.lines_size (omega arith) refl refl)
      (counted_again (has_count i) (section_field 640 55 (words_size h.counted) (omega arith) refl refl))
    where
      counted_again : (counted : Bool) → sh_size 5 (file_with r i) ≡ words_size counted →
          eqb (sh_size 5 (file_with r i)) 104 ≡ counted
      counted_again true e = eq-eqb _ _ e
      counted_again false e = ne_eqb _ _ (λ same. omega (arith, e, same))

  -- ---- the image is read again

  word_again : (place n v : ℕ) → n < length (words_fields i) →
      words_at (headers_of i) + size_of (take n (words_fields i)) ≡ place → get_or (words_fields i) n (Half 0) ≡ Xword v
      → xword_at place (file_with r i) ≡ v
  word_again place n v lt at is =
      field_in (words_fields i) (file_with r i) (r.words_gap ++ names_on r i) (words_at (headers_of i)) place n
      (Xword v) (parts r i k).words fits.words lt at is

  count_again : (image_in (headers_of i) (file_with r i)).count ≡ i.count
  unfolding size_of image_words count_words
  count_again =
      let h = headers_of i in
      let Count : Bool → Type 0 =
      λ counted. (if counted then xword_at (words_at h + 96) (file_with r i) else 0) ≡ i.count in
      elim rules.version as (λ _. Count (has_count i)) [
        | inl one ↦ subst Count (sym (ne_eqb i.version 2 (λ two. omega (arith, one.0, two)))) (sym one.1)
        | inr two ↦
            let counted : has_count i ≡ true = eq-eqb _ _ two in
            let thirteen : words_fields i ≡ image_words i.version i.table h ++ (Xword i.count ∷ []) =
            ap (λ (b : Bool). image_words i.version i.table h ++ count_words b i.count) counted in
            subst Count (sym counted)
            (word_again (words_at h + 96) 12 i.count
            (let n = ap length thirteen in omega (arith, n))
            (ap (λ (fs : List Field). words_at h + size_of (take 12 fs)) thirteen)
            (ap (λ (fs : List Field). get_or fs 12 (Half 0)) thirteen))
      ]

  image_again : image_in (headers_of i) (file_with r i) ≡ i
  unfolding size_of image_words
  image_again =
      let h = headers_of i in
      let p = parts r i k in
      let j = image_in h (file_with r i) in
      let most : 12 ≤ length (words_fields i) =
      omega (arith, length-append (image_words i.version i.table h) (count_words (has_count i) i.count)) in
      let version : j.version ≡ i.version =
      word_again (words_at h) 0 i.version (omega (arith, most)) (omega arith) refl in
      let table : j.table.0 ≡ i.table.0 = word_again (words_at h + 48) 6 i.table.0 (omega (arith, most)) refl refl in
      let table_size : j.table.1 ≡ i.table.1 =
      word_again (words_at h + 56) 7 i.table.1 (omega (arith, most)) refl refl in
      ap (λ (x : ℕ). record j { version = x }) version
      ∙ ap (λ (x : ℕ). record j { version = i.version; count = x }) count_again
      ∙ ap (λ (x : List ℕ). record j { version = i.version; count = i.count; text = x }) p.text
      ∙ ap (λ (x : List ℕ). record j { version = i.version; count = i.count; text = i.text; initial = x }) p.initial
      ∙ ap (λ (x : ℕ). record i { table = (x, j.table.1); relocs = j.relocs; lines = j.lines }) table
      ∙ ap (λ (x : ℕ). record i { table = (i.table.0, x); relocs = j.relocs; lines = j.lines }) table_size
      ∙ ap (λ (x : List Reloc). record i { relocs = x; lines = j.lines })
      (ap (λ (b : List ℕ). map reloc_of (records 40 b)) p.relocs ∙ relocs_again i.relocs fits.relocs)
      ∙ ap (λ (x : List Line). record i { lines = x })
      (ap (λ (b : List ℕ). map line_of (records 16 b)) p.lines ∙ lines_again i.lines fits.lines)

  -- ---- the tests pass

  passes_ident : has_ident (file_with r i) ≡ true
  unfolding has_ident e_ident
  passes_ident =
      and_from (bytes_eq (take 16 (file_with r i)) e_ident) (eqb (e_machine (file_with r i)) 243)
      (ap (λ (b : List ℕ). bytes_eq b e_ident) (take_at e_ident (header_on r i) 16 ident_long))
      (eq-eqb _ _ machine_again)

  passes_header : has_file_header (file_with r i) ≡ true
  unfolding has_file_header
  passes_header =
      let f = file_with r i in
      ap (λ (e : ℕ). meets (file_header e (e_flags f)) (drop 16 f)) entry_again
      ∙ ap (λ (x : ℕ). meets (file_header i.entry x) (drop 16 f)) flags_again
      ∙ ap (meets (file_header i.entry r.flags)) (header_from r i)
      ∙ meets_again (file_header i.entry r.flags) (programs_on r i) header_fit

  passes_tables : has_tables (headers_of i) (file_with r i) ≡ true
  unfolding has_tables
  passes_tables =
      let f = file_with r i in
      let h = headers_of i in
      and_from (sizes_ok h && meets (program_headers h) (drop 64 f)) (meets (section_headers h) (drop 288 f))
      (and_from (sizes_ok h) (meets (program_headers h) (drop 64 f))
      (and_from (eqb (h.text_size % 4) 0 && eqb (h.relocs_size % 40) 0) (eqb (h.lines_size % 16) 0)
      (and_from (eqb (h.text_size % 4) 0) (eqb (h.relocs_size % 40) 0) (eq-eqb _ _ rules.text)
      (eq-eqb _ _ (omega arith)))
      (eq-eqb _ _ (omega arith)))
      (ap (meets (program_headers h)) (programs_from r i)
      ∙ meets_again (program_headers h) (sections_on r i) programs_fit))
      (ap (meets (section_headers h)) (sections_from r i) ∙ meets_again (section_headers h) (text_on r i) sections_fit)

  passes_contents : has_contents (headers_of i) (file_with r i) ≡ true
  unfolding has_contents section_names
  passes_contents =
      let f = file_with r i in
      let h = headers_of i in
      let p = parts r i k in
      let w = image_words i.version i.table h in
      and_from (bytes_eq (part (names_at h) 54 f) section_names && lines_ok 0 (length i.text) (image_in h f).lines)
      (meets (image_words (image_in h f).version (image_in h f).table h) (drop (words_at h) f))
      (and_from (bytes_eq (part (names_at h) 54 f) section_names) (lines_ok 0 (length i.text) (image_in h f).lines)
      (ap (λ (b : List ℕ). bytes_eq b section_names) p.names)
      (ap (λ (j : Image). lines_ok 0 (length i.text) j.lines) image_again
      ∙ test_from_rules 0 (length i.text) i.lines
      (starts_from_none i.lines) rules.ascend rules.in_text rules.kinds))
      (ap (λ (j : Image). meets (image_words j.version j.table h) (drop (words_at h) f)) image_again
      ∙ ap (meets w) (p.words ∙ spelled-append w (count_words (has_count i) i.count) (r.words_gap ++ names_on r i))
      ∙ meets_again w (spelled (count_words (has_count i) i.count) ++ (r.words_gap ++ names_on r i))
      (Fit-front w (count_words (has_count i) i.count) fits.words))

  passes_version : version_fits (has_count i) i.version ≡ true
  passes_version =
      let Fits : Bool → Type 0 = λ counted. version_fits counted i.version ≡ true in
      elim rules.version as (λ _. Fits (has_count i)) [
        | inl one ↦ subst Fits (sym (ne_eqb i.version 2 (λ two. omega (arith, one.0, two)))) (eq-eqb _ _ one.0)
        | inr two ↦ subst Fits (sym (eq-eqb i.version 2 two)) (eq-eqb _ _ two)
      ]

  parts_again : reading_parts (headers_of i) (file_with r i) ≡ Ok i
  unfolding reading_parts
  parts_again =
      let f = file_with r i in
      let h = headers_of i in
      passes3 (leb (end_of h) (length f)) (version_fits (has_count i) (image_in h f).version)
      (has_contents h f) refusal.Part refusal.Version refusal.Field (Ok (image_in h f))
      (le-leb _ _ (length_file r i k)) (ap (λ (j : Image). version_fits (has_count i) j.version) image_again
      ∙ passes_version) passes_contents
      ∙ ap (λ (j : Image). Ok j) image_again
    where
      passes3 : {A : Type 0} (a b c : Bool) (p q s : ElfRefusal) (x : Result A ElfRefusal) → a ≡ true → b ≡ true →
          c ≡ true → guard a p (guard b q (guard c s x)) ≡ x
      passes3 a b c p q s x ha hb hc = rw (ha, hb, hc) refl

  again : reading (file_with r i) ≡ Ok i
  unfolding reading
  again =
      let f = file_with r i in
      let long = length_file r i k in
      passes5 (leb 64 (length f)) (has_ident f) (has_file_header f) (leb text_at (length f))
      (has_tables (headers_in f) f)
      refusal.Short refusal.Ident refusal.Field refusal.Tables refusal.Field (reading_parts (headers_in f) f)
      (le-leb _ _ (omega arith)) passes_ident passes_header (le-leb _ _ (omega arith))
      (ap (λ (h : Headers). has_tables h f) headers_again ∙ passes_tables)
      ∙ ap (λ (h : Headers). reading_parts h f) headers_again ∙ parts_again
    where
      passes5 : {A : Type 0} (a b c d e : Bool) (p q s t u : ElfRefusal) (x : Result A ElfRefusal) → a ≡ true →
          b ≡ true → c ≡ true → d ≡ true → e ≡ true
          → guard a p (guard b q (guard c s (guard d t (guard e u x)))) ≡ x
      passes5 a b c d e p q s t u x ha hb hc hd he = rw (ha, hb, hc, hd, he) refl

-- a file of an image that keeps the rules is read as that image
pub file_again : (i : Image) (file : List ℕ) → FitsFields i → KeepsRules i → length file < 2 ^ 64 → IsFileOf i file →
    reading file ≡ Ok i
file_again i file fits rules short f =
    let r = f.rest in
    let long = length_file r i f.leaves in
    let same = ap length f.is in
    ap reading f.is ∙ again r i f.leaves fits rules (omega (arith, long, same, short))

-- what is written is a file of the image
pub file_of_is_file : (i : Image) → IsFileOf i (file_of i)
file_of_is_file i = record {
  rest = zeros_for i;
  leaves = record {
    flags = omega arith;
    text_gap = length-replicate (gap_behind (length i.text)) 0;
    initial_gap = length-replicate (gap_behind (length i.initial)) 0;
    relocs_gap = length-replicate (gap_behind (40 * length i.relocs)) 0;
    lines_gap = length-replicate (gap_behind (16 * length i.lines)) 0;
    words_gap = length-replicate (gap_behind (words_size (has_count i))) 0;
  };
  is = refl;
}

-- a file that was written is read as its image
pub written_again : {E : Type 0} (i : Image) (w : Result (Vec ℕ Global) E) → KeepsRules i →
    IfOk w (λ file. file.items ≡ file_of i) → IfOk w (λ file. length file.items < 2 ^ 64) → OnOk w (FitsFields i)
    → IfOk w (λ file. reading file.items ≡ Ok i)
written_again i (Ok file) rules bytes short fits =
    let f : IsFileOf i file.items = let P : List ℕ → Type 0 = IsFileOf i in subst P (sym bytes) (file_of_is_file i) in
    file_again i file.items fits rules short f
written_again i (Err e) rules bytes short fits = tt
