-- Records of one size, spelled one after the other and read again.
use Rattle.std.proofs.Common.{◌≡◌, ℕ, ◌*◌, ◌/◌, List, [], ◌∷◌, ◌++◌, length, map, drop, refl, sym, ap, ◌∙◌, arith}
use Rattle.std.specs.List.{flat_map, All}
use Rattle.std.specs.Simd.{first_chunks}
use Rattle.std.proofs.lemmas.List.{take_at, drop_at, length-append, append-nil}
use Rattle.std.proofs.lemmas.List.Elements.{All-head, All-tail}
use Rattle.elf_file.specs.declared.field.Field.TheVariants.{Word, Xword}
use Rattle.elf_file.specs.declared.image.Line.{Line}
use Rattle.elf_file.specs.declared.image.Reloc.{Reloc}
use Rattle.elf_file.specs.Fields.{spelled, size_of, word_at, xword_at, Fit}
use Rattle.elf_file.specs.File.{relocs_bytes, lines_bytes}
use Rattle.elf_file.specs.Image.{reloc_fields, reloc_of, line_fields, line_of}
use Rattle.elf_file.specs.Reading.{records}
use Rattle.elf_file.proofs.Runs.{length_spelled, field_in}

module _ {X : Type 0} (size : ℕ) (bytes : X → List ℕ) (of : List ℕ → X) (long : (x : X) → length (bytes x) ≡ size) where
  length_all : (xs : List X) → length (flat_map bytes xs) ≡ size * length xs
  length_all [] = omega arith
  length_all (x ∷ xs) = omega (arith, length-append (bytes x) (flat_map bytes xs), long x, length_all xs)

  all_again : (fits : X → Type 0) (again : (x : X) → fits x → of (bytes x) ≡ x) (xs : List X) → All fits xs →
      map of (first_chunks size (length xs) (flat_map bytes xs)) ≡ xs
  all_again fits again [] h = refl
  all_again fits again (x ∷ xs) h =
      ap (λ (b : List ℕ). of b ∷ map of (first_chunks size (length xs) (drop size (bytes x ++ flat_map bytes xs))))
      (take_at (bytes x) (flat_map bytes xs) size (long x))
      ∙ ap (λ (y : X). y ∷ map of (first_chunks size (length xs) (drop size (bytes x ++ flat_map bytes xs))))
      (again x (All-head fits x xs h))
      ∙ ap (λ (b : List ℕ). x ∷ map of (first_chunks size (length xs) b))
      (drop_at (bytes x) (flat_map bytes xs) size (long x))
      ∙ ap (λ (ys : List X). x ∷ ys) (all_again fits again xs (All-tail fits x xs h))

-- ---- relocations

length_reloc : (r : Reloc) → length (spelled (reloc_fields r)) ≡ 40
unfolding size_of
length_reloc r = length_spelled (reloc_fields r)

reloc_again : (r : Reloc) → Fit (reloc_fields r) → reloc_of (spelled (reloc_fields r)) ≡ r
unfolding size_of
reloc_again r h =
    let fs = reloc_fields r in
    let b : List ℕ = spelled fs in
    let whole = sym (append-nil b) in
    let e0 : xword_at 0 b ≡ r.place = field_in fs b [] 0 0 0 (Xword r.place) whole h (omega arith) refl refl in
    let e1 : xword_at 8 b ≡ r.base = field_in fs b [] 0 8 1 (Xword r.base) whole h (omega arith) refl refl in
    let e2 : xword_at 16 b ≡ r.offset = field_in fs b [] 0 16 2 (Xword r.offset) whole h (omega arith) refl refl in
    let e3 : xword_at 24 b ≡ r.length = field_in fs b [] 0 24 3 (Xword r.length) whole h (omega arith) refl refl in
    let e4 : xword_at 32 b ≡ r.perms = field_in fs b [] 0 32 4 (Xword r.perms) whole h (omega arith) refl refl in
    ap (λ (x : ℕ). record (reloc_of b) { place = x }) e0
    ∙ ap (λ (x : ℕ). record (reloc_of b) { place = r.place; base = x }) e1
    ∙ ap (λ (x : ℕ). record (reloc_of b) { place = r.place; base = r.base; offset = x }) e2
    ∙ ap (λ (x : ℕ). record r { length = x; perms = xword_at 32 b }) e3
    ∙ ap (λ (x : ℕ). record r { perms = x }) e4

pub length-relocs_bytes : (rs : List Reloc) → length (relocs_bytes rs) ≡ 40 * length rs
length-relocs_bytes rs = length_all 40 (λ r. spelled (reloc_fields r)) reloc_of length_reloc rs

pub relocs_again : (rs : List Reloc) → All (λ r. Fit (reloc_fields r)) rs →
    map reloc_of (records 40 (relocs_bytes rs)) ≡ rs
relocs_again rs h =
    let count : length (relocs_bytes rs) / 40 ≡ length rs = omega (arith, length-relocs_bytes rs) in
    ap (λ (n : ℕ). map reloc_of (first_chunks 40 n (relocs_bytes rs))) count
    ∙ all_again 40 (λ r. spelled (reloc_fields r)) reloc_of length_reloc
    (λ r. Fit (reloc_fields r)) reloc_again rs h

-- ---- lines

length_line : (l : Line) → length (spelled (line_fields l)) ≡ 16
unfolding size_of
length_line l = length_spelled (line_fields l)

line_again : (l : Line) → Fit (line_fields l) → line_of (spelled (line_fields l)) ≡ l
unfolding size_of
line_again l h =
    let fs = line_fields l in
    let b : List ℕ = spelled fs in
    let whole = sym (append-nil b) in
    let e0 : word_at 0 b ≡ l.at = field_in fs b [] 0 0 0 (Word l.at) whole h (omega arith) refl refl in
    let e1 : word_at 4 b ≡ l.line = field_in fs b [] 0 4 1 (Word l.line) whole h (omega arith) refl refl in
    let e2 : word_at 8 b ≡ l.col = field_in fs b [] 0 8 2 (Word l.col) whole h (omega arith) refl refl in
    let e3 : word_at 12 b ≡ l.kind = field_in fs b [] 0 12 3 (Word l.kind) whole h (omega arith) refl refl in
    ap (λ (x : ℕ). record (line_of b) { at = x }) e0
    ∙ ap (λ (x : ℕ). record (line_of b) { at = l.at; line = x }) e1
    ∙ ap (λ (x : ℕ). record l { col = x; kind = word_at 12 b }) e2
    ∙ ap (λ (x : ℕ). record l { kind = x }) e3

pub length-lines_bytes : (ls : List Line) → length (lines_bytes ls) ≡ 16 * length ls
length-lines_bytes ls = length_all 16 (λ l. spelled (line_fields l)) line_of length_line ls

pub lines_again : (ls : List Line) → All (λ l. Fit (line_fields l)) ls → map line_of (records 16 (lines_bytes ls)) ≡ ls
lines_again ls h =
    let count : length (lines_bytes ls) / 16 ≡ length ls = omega (arith, length-lines_bytes ls) in
    ap (λ (n : ℕ). map line_of (first_chunks 16 n (lines_bytes ls))) count
    ∙ all_again 16 (λ l. spelled (line_fields l)) line_of length_line (λ l. Fit (line_fields l)) line_again ls h
