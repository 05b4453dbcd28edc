-- What is read keeps the rules, and its file is a file of it.
use Rattle.std.proofs.Common.{◌≡◌, ℕ, zero, suc, ◌+◌, ◌*◌, ◌/◌, ◌%◌, ◌^◌, ◌<◌, ◌≤◌, Bool, true, false, eqb, leb, List}
use Rattle.std.proofs.Common.{[], ◌∷◌, ◌++◌, length, slice_index, take, drop, Result, Ok, Err, subst, inl, inr, refl}
use Rattle.std.proofs.Common.{sym, ap, ◌∙◌, arith, eq-eqb}
use Rattle.std.specs.Prelude.{◌⊎◌, map, IfOk, if◌then◌else◌}
use Rattle.std.specs.List.{flat_map}
use Rattle.std.specs.Simd.{first_chunks}
use Rattle.std.proofs.Math.Seq.{take-add}
use Rattle.std.proofs.lemmas.Bool.{and_from, cases_lt, eqb-true, leb-true, ne_eqb}
use Rattle.std.proofs.lemmas.List.{append-nil, drop-drop, get_or_past, get_or-take, length-drop, length-take}
use Rattle.std.proofs.lemmas.List.{length-take-le, take_all, take-append-drop}
use Rattle.byteorder.specs.Numbers.{little_from-lt}
use Rattle.elf_file.specs.declared.field.Field.{Field}
use Rattle.elf_file.specs.declared.field.Field.TheVariants.{Word, Xword}
use Rattle.elf_file.specs.declared.headers.Headers.{Headers}
use Rattle.elf_file.specs.declared.image.Image.{Image}
use Rattle.elf_file.specs.declared.image.Line.{Line}
use Rattle.elf_file.specs.declared.image.Reloc.{Reloc}
use Rattle.elf_file.specs.declared.refusal.ElfRefusal.{ElfRefusal}
use Rattle.elf_file.specs.Fields.{width_of, value_of, number, xword_at, spelled, size_of, meets}
use Rattle.elf_file.specs.File.{Rest, file_with, headers_of, words_fields, gap_behind, relocs_bytes, lines_bytes}
use Rattle.elf_file.specs.File.{IsFileOf}
use Rattle.elf_file.specs.Headers.{rounded, section_names, text_at, initial_at, relocs_at, lines_at, words_at}
use Rattle.elf_file.specs.Headers.{words_size, names_at, end_of, file_header, program_headers, section_headers}
use Rattle.elf_file.specs.Headers.{image_words, count_words}
use Rattle.elf_file.specs.Image.{reloc_fields, reloc_of, line_fields, line_of, has_count, KeepsRules}
use Rattle.elf_file.specs.Reading.{e_entry, e_flags, headers_in, part, image_in, has_ident, has_file_header, has_tables}
use Rattle.elf_file.specs.Reading.{version_fits, has_contents, guard, reading_parts, reading}
use Rattle.elf_file.proofs.Again.{names_on, words_on, lines_on, relocs_on, initial_on, text_on, sections_on}
use Rattle.elf_file.proofs.Again.{programs_on, header_on}
use Rattle.elf_file.proofs.Lines.{rules_from_test}
use Rattle.elf_file.proofs.Runs.{spelled-append}
use Rattle.elf_file.proofs.Sizes.{size_of_file_header, size_of_program_headers, size_of_section_headers}
use Rattle.elf_file.proofs.Sizes.{size_of_image_words, words_size_least, words_size_most}
use Rattle.elf_file.proofs.Spelled.{AreBytes, AreBytes-drop, meets_spelled}
use Rattle.elf_file.proofs.Tested.{same_ident, TablesAre, tables_are, contents_are, length_text, has_lines}

-- ---- records

AreBytes-take : (n : ℕ) (bytes : List ℕ) → AreBytes bytes → AreBytes (take n bytes)
AreBytes-take n bytes h = record { below = λ k. at k (cases_lt k n) }
  where
    at : (k : ℕ) → (k < n) ⊎ (n ≤ k) → slice_index (take n bytes) k < 256
    at k (inl lt) = omega (arith, get_or-take n bytes k 0 lt, h.below k)
    at k (inr ge) = omega (arith, get_or_past (take n bytes) k 0 (omega (arith, length-take n bytes)))

meets_cons : (f : Field) (fs : List Field) (bytes : List ℕ) → number (width_of f) bytes ≡ value_of f →
    meets fs (drop (width_of f) bytes) ≡ true → meets (f ∷ fs) bytes ≡ true
unfolding meets
meets_cons f fs bytes here on =
    and_from (eqb (number (width_of f) bytes) (value_of f)) (meets fs (drop (width_of f) bytes)) (eq-eqb _ _ here) on

-- a relocation and a line have the fields that their bytes begin with
meets_reloc : (b : List ℕ) → meets (reloc_fields (reloc_of b)) b ≡ true
unfolding meets
meets_reloc b =
    let r = reloc_of b in
    let at16 = drop-drop 8 8 b in
    let at24 = ap (drop 8) at16 ∙ drop-drop 8 16 b in
    let at32 = ap (drop 8) at24 ∙ drop-drop 8 24 b in
    meets_cons (Xword r.place) (Xword r.base ∷ Xword r.offset ∷ Xword r.length ∷ Xword r.perms ∷ []) b refl
    (meets_cons (Xword r.base) (Xword r.offset ∷ Xword r.length ∷ Xword r.perms ∷ []) (drop 8 b) refl
    (meets_cons (Xword r.offset) (Xword r.length ∷ Xword r.perms ∷ []) (drop 8 (drop 8 b)) (ap (number 8) at16)
    (meets_cons (Xword r.length) (Xword r.perms ∷ []) (drop 8 (drop 8 (drop 8 b))) (ap (number 8) at24)
    (meets_cons (Xword r.perms) [] (drop 8 (drop 8 (drop 8 (drop 8 b)))) (ap (number 8) at32) refl))))

meets_line : (b : List ℕ) → meets (line_fields (line_of b)) b ≡ true
unfolding meets
meets_line b =
    let l = line_of b in
    let at8 = drop-drop 4 4 b in
    let at12 = ap (drop 4) at8 ∙ drop-drop 4 8 b in
    meets_cons (Word l.at) (Word l.line ∷ Word l.col ∷ Word l.kind ∷ []) b refl
    (meets_cons (Word l.line) (Word l.col ∷ Word l.kind ∷ []) (drop 4 b) refl
    (meets_cons (Word l.col) (Word l.kind ∷ []) (drop 4 (drop 4 b)) (ap (number 4) at8)
    (meets_cons (Word l.kind) [] (drop 4 (drop 4 (drop 4 b))) (ap (number 4) at12) refl)))

module _ {X : Type 0} (size : ℕ) (fields : X → List Field) (of : List ℕ → X)
    (sized : (x : X) → size_of (fields x) ≡ size) (met : (b : List ℕ) → meets (fields (of b)) b ≡ true) where
  record_spelled : (b : List ℕ) → AreBytes b → length b ≡ size → spelled (fields (of b)) ≡ b
  record_spelled b h long =
      let e = sized (of b) in
      sym (meets_spelled (fields (of b)) b h (omega (arith, e)) (met b)) ∙ ap (λ (n : ℕ). take n b) e
      ∙ take_all size b (omega arith)

  records_spelled : (k : ℕ) (b : List ℕ) → AreBytes b → size * k ≤ length b →
      flat_map (λ x. spelled (fields x)) (map of (first_chunks size k b)) ≡ take (size * k) b
  records_spelled zero b h room = let none : size * zero ≡ 0 = omega arith in sym (ap (λ (n : ℕ). take n b) none)
  records_spelled (suc k) b h room =
      let more : size * suc k ≡ size + size * k = omega arith in
      let one : spelled (fields (of (take size b))) ≡ take size b =
      record_spelled (take size b) (AreBytes-take size b h) (length-take-le size b (omega arith)) in
      let others = records_spelled k (drop size b) (AreBytes-drop size b h) (omega (arith, length-drop size b)) in
      ap (λ (x : List ℕ). x ++ flat_map (λ x. spelled (fields x)) (map of (first_chunks size k (drop size b)))) one
      ∙ ap (λ (x : List ℕ). take size b ++ x) others
      ∙ sym (take-add size (size * k) b) ∙ ap (λ (n : ℕ). take n b) (sym more)

  length_records : (k : ℕ) (b : List ℕ) → length (map of (first_chunks size k b)) ≡ k
  length_records zero b = refl
  length_records (suc k) b = omega (arith, length_records k (drop size b))

reloc_sized : (r : Reloc) → size_of (reloc_fields r) ≡ 40
unfolding size_of
reloc_sized r = refl

line_sized : (l : Line) → size_of (line_fields l) ≡ 16
unfolding size_of
line_sized l = refl

-- ---- what a reading has passed

record Passes (file : List ℕ) (i : Image) : Type 0 where
  ident : has_ident file ≡ true
  header : has_file_header file ≡ true
  headers : leb text_at (length file) ≡ true
  tables : has_tables (headers_in file) file ≡ true
  end : leb (end_of (headers_in file)) (length file) ≡ true
  version : version_fits (headers_in file).counted (image_in (headers_in file) file).version ≡ true
  contents : has_contents (headers_in file) file ≡ true
  is : image_in (headers_in file) file ≡ i

passed : {A : Type 0} (a : Bool) (e : ElfRefusal) (x : Result A ElfRefusal) (y : A) → guard a e x ≡ Ok y →
    (a ≡ true) × (x ≡ Ok y)
passed true e x y h = (refl, h)
passed false e x y h = absurd cc

same_ok : {A : Type 0} (x y : A) → ◌≡◌ {A = Result A ElfRefusal} (Ok x) (Ok y) → x ≡ y
same_ok x y e = cc

passes : (file : List ℕ) (i : Image) → reading file ≡ Ok i → Passes file i
unfolding reading reading_parts
passes file i e =
    let a = passed _ _ _ i e in
    let b = passed _ _ _ i a.1 in
    let c = passed _ _ _ i b.1 in
    let d = passed _ _ _ i c.1 in
    let f = passed _ _ _ i d.1 in
    let g = passed _ _ _ i f.1 in
    let j = passed _ _ _ i g.1 in
    let k = passed _ _ _ i j.1 in
    record {
      ident = b.0;
      header = c.0;
      headers = d.0;
      tables = f.0;
      end = g.0;
      version = j.0;
      contents = k.0;
      is = same_ok (image_in (headers_in file) file) i k.1;
    }

-- ---- the rules

-- the version test says the version, and with it whether there is a count
version_rule : (counted : Bool) (version count : ℕ) → version_fits counted version ≡ true →
    ((version ≡ 1) × ((if counted then count else 0) ≡ 0)) ⊎ (version ≡ 2)
version_rule true version count e = inr (eqb-true version 2 e)
version_rule false version count e = inl (eqb-true version 1 e, refl)

counted_by : (counted : Bool) (version : ℕ) → version_fits counted version ≡ true → eqb version 2 ≡ counted
counted_by true version e = e
counted_by false version e = ne_eqb version 2 (λ two. let one = eqb-true version 1 e in omega (arith, one, two))

rules_kept : (file : List ℕ) (i : Image) → Passes file i → KeepsRules (image_in (headers_in file) file)
rules_kept file i p =
    let h = headers_in file in
    let room : end_of h ≤ length file = leb-true (end_of h) (length file) p.end in
    let lines = rules_from_test 0 (length (image_in h file).text) (image_in h file).lines
    (has_lines h file room p.contents) in
    record {
      version = version_rule h.counted (image_in h file).version (xword_at (words_at h + 96) file) p.version;
      text = ap (λ (n : ℕ). n % 4) (length_text h file room) ∙ (tables_are h file p.tables).text;
      ascend = lines.0;
      in_text = lines.1;
      kinds = lines.2;
    }

pub keeps_rules : (file : List ℕ) (i : Image) → reading file ≡ Ok i → KeepsRules i
keeps_rules file i e = let p = passes file i e in let P : Image → Type 0 = KeepsRules in
    subst P p.is (rules_kept file i p)

-- ---- the file, piece by piece

-- the bytes from a place on: so many of them, and those behind
cut : (at size : ℕ) (file : List ℕ) → part at size file ++ drop (at + size) file ≡ drop at file
cut at size file = ap (λ (x : List ℕ). part at size file ++ x) (sym (drop-drop size at file))
    ∙ take-append-drop size (drop at file)

-- fields that the bytes from a place on begin with
fields_cut : (fs : List Field) (at size : ℕ) (file : List ℕ) → AreBytes file → size_of fs ≡ size →
    at + size ≤ length file → meets fs (drop at file) ≡ true → spelled fs ++ drop (at + size) file ≡ drop at file
fields_cut fs at size file h e room met =
    let here : part at size file ≡ spelled fs =
    ap (λ (n : ℕ). take n (drop at file)) (sym e)
    ∙ meets_spelled fs (drop at file) (AreBytes-drop at file h) (omega (arith, length-drop at file)) met in
    ap (λ (x : List ℕ). x ++ drop (at + size) file) (sym here) ∙ cut at size file

-- the count, where it stands
one_sized : (x : ℕ) → size_of (Xword x ∷ []) ≡ 8
unfolding size_of
one_sized x = refl

counted_cut : (counted : Bool) (at : ℕ) (file : List ℕ) → AreBytes file → at + words_size counted ≤ length file
    → spelled (count_words counted (if counted then xword_at (at + 96) file else 0))
    ++ drop (at + words_size counted) file ≡ drop (at + 96) file
unfolding count_words spelled meets
counted_cut true at file h room =
    let x = xword_at (at + 96) file in
    let place : at + 104 ≡ at + 96 + 8 = omega arith in
    ap (λ (n : ℕ). spelled (Xword x ∷ []) ++ drop n file) place
    ∙ fields_cut (Xword x ∷ []) (at + 96) 8 file h (one_sized x) (omega (arith, room))
    (meets_cons (Xword x) [] (drop (at + 96) file) refl refl)
counted_cut false at file h room = refl

-- a part, the gap behind it, and what follows
part_cut : (at size : ℕ) (file p t : List ℕ) → at % 16 ≡ 0 → p ≡ part at size file →
    t ≡ drop (rounded (at + size)) file → p ++ (part (at + size) (gap_behind size) file ++ t) ≡ drop at file
part_cut at size file p t whole pe te =
    let gap = part (at + size) (gap_behind size) file in
    let next : rounded (at + size) ≡ at + size + gap_behind size = omega arith in
    ap (λ (x : List ℕ). x ++ (gap ++ t)) pe
    ∙ ap (λ (x : List ℕ). part at size file ++ (gap ++ x)) (te ∙ ap (λ (n : ℕ). drop n file) next)
    ∙ ap (λ (x : List ℕ). part at size file ++ x) (cut (at + size) (gap_behind size) file)
    ∙ cut at size file

-- what the format leaves open, in a file
abbrev the_rest : List ℕ → Rest
the_rest file =
    let h = headers_in file in
    record {
      flags = e_flags file;
      text_gap = part (text_at + h.text_size) (gap_behind h.text_size) file;
      initial_gap = part (initial_at h + h.initial_size) (gap_behind h.initial_size) file;
      relocs_gap = part (relocs_at h + h.relocs_size) (gap_behind h.relocs_size) file;
      lines_gap = part (lines_at h + h.lines_size) (gap_behind h.lines_size) file;
      words_gap = part (words_at h + words_size h.counted) (gap_behind (words_size h.counted)) file;
      tail = drop (end_of h) file;
    }

flags_small : (file : List ℕ) → AreBytes file → e_flags file < 2 ^ 32
unfolding number
flags_small file h = let b = AreBytes-drop 48 file h in little_from-lt 0 4 (drop 48 file) b.below

length_part : (at size : ℕ) (file : List ℕ) → at + size ≤ length file → length (part at size file) ≡ size
length_part at size file room = length-take-le size (drop at file) (omega (arith, length-drop at file))

-- the records of a part fill it
record Fills (file : List ℕ) : Type 0 where
  initial : length (image_in (headers_in file) file).initial ≡ (headers_in file).initial_size
  relocs : 40 * length (image_in (headers_in file) file).relocs ≡ (headers_in file).relocs_size
  lines : 16 * length (image_in (headers_in file) file).lines ≡ (headers_in file).lines_size
  relocs_are : relocs_bytes (image_in (headers_in file) file).relocs
      ≡ part (relocs_at (headers_in file)) (headers_in file).relocs_size file
  lines_are : lines_bytes (image_in (headers_in file) file).lines
      ≡ part (lines_at (headers_in file)) (headers_in file).lines_size file

fills : (file : List ℕ) → AreBytes file → end_of (headers_in file) ≤ length file → TablesAre (headers_in file) file →
    Fills file
fills file h room tables =
    let hs = headers_in file in
    let forty = tables.relocs in
    let sixteen = tables.lines in
    let rs : List ℕ = part (relocs_at hs) hs.relocs_size file in
    let ls : List ℕ = part (lines_at hs) hs.lines_size file in
    let rs_long : length rs ≡ hs.relocs_size = length_part (relocs_at hs) hs.relocs_size file (omega arith) in
    let ls_long : length ls ≡ hs.lines_size = length_part (lines_at hs) hs.lines_size file (omega arith) in
    let rs_bytes : AreBytes rs =
    AreBytes-take hs.relocs_size (drop (relocs_at hs) file) (AreBytes-drop (relocs_at hs) file h) in
    let ls_bytes : AreBytes ls =
    AreBytes-take hs.lines_size (drop (lines_at hs) file) (AreBytes-drop (lines_at hs) file h) in
    record {
      initial = length_part (initial_at hs) hs.initial_size file (omega arith);
      relocs = omega (
        arith,
        rs_long,
        forty,
        length_records 40 reloc_fields reloc_of reloc_sized meets_reloc (length rs / 40) rs,
      );
      lines = omega (
        arith,
        ls_long,
        sixteen,
        length_records 16 line_fields line_of line_sized meets_line (length ls / 16) ls,
      );
      relocs_are = records_spelled 40 reloc_fields reloc_of reloc_sized meets_reloc (length rs / 40) rs rs_bytes
          (omega (arith, rs_long)) ∙ take_all (40 * (length rs / 40)) rs (omega (arith, rs_long, forty));
      lines_are = records_spelled 16 line_fields line_of line_sized meets_line (length ls / 16) ls ls_bytes
          (omega (arith, ls_long)) ∙ take_all (16 * (length ls / 16)) ls (omega (arith, ls_long, sixteen));
    }

-- the headers of the image are those of the file
headers_same : (file : List ℕ) → end_of (headers_in file) ≤ length file →
    version_fits (headers_in file).counted (image_in (headers_in file) file).version ≡ true → Fills file →
    headers_of (image_in (headers_in file) file) ≡ headers_in file
headers_same file room v f =
    let h = headers_in file in
    let i = image_in h file in
    ap (λ (x : ℕ). record h {
      text_size = x;
      initial_size = length i.initial;
      relocs_size = 40 * length i.relocs;
      lines_size = 16 * length i.lines;
      counted = has_count i;
    }) (length_text h file room)
    ∙ ap (λ (x : ℕ). record h {
      initial_size = x;
      relocs_size = 40 * length i.relocs;
      lines_size = 16 * length i.lines;
      counted = has_count i;
    }) f.initial
    ∙ ap (λ (x : ℕ). record h { relocs_size = x; lines_size = 16 * length i.lines; counted = has_count i }) f.relocs
    ∙ ap (λ (x : ℕ). record h { lines_size = x; counted = has_count i }) f.lines
    ∙ ap (λ (x : Bool). record h { counted = x }) (counted_by h.counted i.version v)

module _ (file : List ℕ) (i : Image) (h : AreBytes file) (p : Passes file i) where
  room : end_of (headers_in file) ≤ length file
  room = leb-true (end_of (headers_in file)) (length file) p.end

  tables : TablesAre (headers_in file) file
  tables = tables_are (headers_in file) file p.tables

  filled : Fills file
  filled = fills file h room tables

  same : headers_of (image_in (headers_in file) file) ≡ headers_in file
  same = headers_same file room p.version filled

  -- from the names on, from the count on, from the words on, from the lines on, and so forth up to the whole file
  names_cut : names_on (the_rest file) (image_in (headers_in file) file) ≡ drop (names_at (headers_in file)) file
  names_cut =
      let hs = headers_in file in
      let r = the_rest file in
      let contents = contents_are hs file p.contents in
      ap (λ (x : List ℕ). section_names ++ x) (append-nil r.tail)
      ∙ ap (λ (x : List ℕ). x ++ r.tail) (sym contents.names) ∙ cut (names_at hs) 54 file

  count_cut : spelled (count_words (headers_in file).counted (image_in (headers_in file) file).count)
      ++ ((the_rest file).words_gap ++ names_on (the_rest file) (image_in (headers_in file) file))
      ≡ drop (words_at (headers_in file) + 96) file
  count_cut =
      let hs = headers_in file in
      let x = xword_at (words_at hs + 96) file in
      let size = words_size hs.counted in
      let least = words_size_least hs.counted in
      let next : names_at hs ≡ words_at hs + size + gap_behind size = omega arith in
      let rest = the_rest file in
      let gap : rest.words_gap ++ names_on rest (image_in hs file) ≡ drop (words_at hs + size) file =
      ap (λ (y : List ℕ). rest.words_gap ++ y) (names_cut ∙ ap (λ (n : ℕ). drop n file) next)
      ∙ cut (words_at hs + size) (gap_behind size) file in
      ap (λ (y : List ℕ). spelled (count_words hs.counted (if hs.counted then x else 0)) ++ y) gap
      ∙ counted_cut hs.counted (words_at hs) file h (omega (arith, room))

  words_cut : words_on (the_rest file) (image_in (headers_in file) file) ≡ drop (words_at (headers_in file)) file
  words_cut =
      let hs = headers_in file in
      let j = image_in hs file in
      let gap = (the_rest file).words_gap ++ names_on (the_rest file) j in
      let contents = contents_are hs file p.contents in
      let least = words_size_least hs.counted in
      ap (λ (x : Headers). spelled (image_words j.version j.table x ++ count_words (has_count j) j.count) ++ gap) same
      ∙ ap (λ (b : Bool). spelled (image_words j.version j.table hs ++ count_words b j.count) ++ gap)
      (counted_by hs.counted j.version p.version)
      ∙ spelled-append (image_words j.version j.table hs) (count_words hs.counted j.count) gap
      ∙ ap (λ (x : List ℕ). spelled (image_words j.version j.table hs) ++ x) count_cut
      ∙ fields_cut (image_words j.version j.table hs) (words_at hs) 96 file h (size_of_image_words j.version j.table hs)
      (omega (arith, room)) contents.words

  lines_cut : lines_on (the_rest file) (image_in (headers_in file) file) ≡ drop (lines_at (headers_in file)) file
  lines_cut =
      let hs = headers_in file in part_cut (lines_at hs) hs.lines_size file _ _ (omega arith) filled.lines_are words_cut

  relocs_cut : relocs_on (the_rest file) (image_in (headers_in file) file) ≡ drop (relocs_at (headers_in file)) file
  relocs_cut =
      let hs = headers_in file in
      part_cut (relocs_at hs) hs.relocs_size file _ _ (omega arith) filled.relocs_are lines_cut

  initial_cut : initial_on (the_rest file) (image_in (headers_in file) file) ≡ drop (initial_at (headers_in file)) file
  initial_cut = let hs = headers_in file in
      part_cut (initial_at hs) hs.initial_size file _ _ (omega arith) refl relocs_cut

  text_cut : text_on (the_rest file) (image_in (headers_in file) file) ≡ drop 736 file
  text_cut = let hs = headers_in file in part_cut text_at hs.text_size file _ _ refl refl initial_cut

  file_cut : file_with (the_rest file) (image_in (headers_in file) file) ≡ file
  unfolding has_file_header
  file_cut =
      let hs = headers_in file in
      let j = image_in hs file in
      let r = the_rest file in
      let sections : sections_on r j ≡ drop 288 file =
      ap (λ (x : Headers). spelled (section_headers x) ++ text_on r j) same
      ∙ ap (λ (x : List ℕ). spelled (section_headers hs) ++ x) text_cut
      ∙ fields_cut (section_headers hs) 288 448 file h (size_of_section_headers hs)
      (omega (arith, room)) tables.sections in
      let programs : programs_on r j ≡ drop 64 file =
      ap (λ (x : Headers). spelled (program_headers x) ++ sections_on r j) same
      ∙ ap (λ (x : List ℕ). spelled (program_headers hs) ++ x) sections
      ∙ fields_cut (program_headers hs) 64 224 file h (size_of_program_headers hs)
      (omega (arith, room)) tables.programs in
      let header : header_on r j ≡ drop 16 file =
      ap (λ (x : List ℕ). spelled (file_header (e_entry file) (e_flags file)) ++ x) programs
      ∙ fields_cut (file_header (e_entry file) (e_flags file)) 16 48 file h
      (size_of_file_header (e_entry file) (e_flags file)) (omega (arith, room)) p.header in
      ap (λ (x : List ℕ). x ++ header_on r j) (sym (same_ident file p.ident))
      ∙ ap (λ (x : List ℕ). take 16 file ++ x) header ∙ take-append-drop 16 file

  is_file : IsFileOf (image_in (headers_in file) file) file
  is_file =
      let hs = headers_in file in
      record {
        rest = the_rest file;
        leaves = record {
          flags = flags_small file h;
          text_gap = length_part (text_at + hs.text_size) (gap_behind hs.text_size) file (omega (arith, room))
              ∙ ap gap_behind (sym (length_text hs file room));
          initial_gap = length_part (initial_at hs + hs.initial_size) (gap_behind hs.initial_size) file
              (omega (arith, room)) ∙ ap gap_behind (sym filled.initial);
          relocs_gap = length_part (relocs_at hs + hs.relocs_size) (gap_behind hs.relocs_size) file
              (omega (arith, room)) ∙ ap gap_behind (sym filled.relocs);
          lines_gap = length_part (lines_at hs + hs.lines_size) (gap_behind hs.lines_size) file (omega (arith, room))
              ∙ ap gap_behind (sym filled.lines);
          words_gap =
              length_part (words_at hs + words_size hs.counted) (gap_behind (words_size hs.counted)) file
              (omega (arith, room))
              ∙ ap (λ (b : Bool). gap_behind (words_size b))
              (sym (counted_by hs.counted (image_in hs file).version p.version));
        };
        is = sym file_cut;
      }

pub is_file_of : (file : List ℕ) (i : Image) → ((k : ℕ) → slice_index file k < 256) → reading file ≡ Ok i →
    IsFileOf i file
is_file_of file i below e =
    let p = passes file i e in
    let P : Image → Type 0 = λ j. IsFileOf j file in
    subst P p.is (is_file file i (record { below = below }) p)

pub found : (file : List ℕ) (r : Result Image ElfRefusal) → ((k : ℕ) → slice_index file k < 256) → r ≡ reading file →
    IfOk r (λ i. KeepsRules i × IsFileOf i file)
found file (Ok i) below e = (keeps_rules file i (sym e), is_file_of file i below (sym e))
found file (Err x) below e = tt
