-- What an image says, and the rules that it keeps.
use Rattle.std.specs.Prelude.{◌≡◌, ℕ, ◌+◌, ◌%◌, ◌<◌, ◌==◌, ◌&&◌, ◌⊎◌, nat_le, nat_lt, Bool, true, List, [], ◌∷◌, ◌++◌}
use Rattle.std.specs.Prelude.{length, map, Option, if◌then◌else◌}
use Rattle.std.specs.List.{All, find}
use Rattle.std.specs.List.Sorted.{IsStrictlyIncreasing}
use Rattle.elf_file.specs.declared.field.Field.{Field}
use Rattle.elf_file.specs.declared.field.Field.TheVariants.{Word, Xword}
use Rattle.elf_file.specs.declared.image.Image.{Image}
use Rattle.elf_file.specs.declared.image.Line.{Line}
use Rattle.elf_file.specs.declared.image.Reloc.{Reloc}
use Rattle.elf_file.specs.Fields.{word_at, xword_at}

-- ---- the records of the sections

-- a relocation in .ck_relocs: 40 bytes
abbrev pub reloc_fields : Reloc → List Field
reloc_fields r = Xword r.place ∷ Xword r.base ∷ Xword r.offset ∷ Xword r.length ∷ Xword r.perms ∷ []

abbrev pub reloc_of : List ℕ → Reloc
reloc_of bytes = record {
  place = xword_at 0 bytes;
  base = xword_at 8 bytes;
  offset = xword_at 16 bytes;
  length = xword_at 24 bytes;
  perms = xword_at 32 bytes;
}

-- a line in .ck_lines: 16 bytes
abbrev pub line_fields : Line → List Field
line_fields l = Word l.at ∷ Word l.line ∷ Word l.col ∷ Word l.kind ∷ []

abbrev pub line_of : List ℕ → Line
line_of bytes = record {
  at = word_at 0 bytes;
  line = word_at 4 bytes;
  col = word_at 8 bytes;
  kind = word_at 12 bytes;
}

-- whether .ck_image has the count: in version 2
abbrev pub has_count : Image → Bool
has_count i = i.version == 2

-- the words of .ck_image: version, entry, then base and length of text, data, table, heap and stack; and in version 2
-- the count
abbrev pub words_of : Image → List ℕ
words_of i =
    (i.version ∷ i.entry ∷ i.text_base ∷ length i.text ∷ i.initial_base ∷ length i.initial
    ∷ i.table.0 ∷ i.table.1 ∷ i.heap.0 ∷ i.heap.1 ∷ i.stack.0 ∷ i.stack.1 ∷ [])
    ++ (if has_count i then i.count ∷ [] else [])

-- ---- its lines

-- the lines ascend strictly from `least`, lie in a text of that size, and are of kind 0 or 1
abbrev pub lines_ok : ℕ → ℕ → List Line → Bool
lines_ok least size [] = true
lines_ok least size (l ∷ ls) = nat_le least l.at && nat_lt l.at size && nat_lt l.kind 2 && lines_ok (l.at + 1) size ls

-- the line at an address: the one whose text offset is the address less the text's base
abbrev pub position_of : Image → ℕ → Option Line
position_of i pc = find (λ l. i.text_base + l.at == pc) i.lines

-- ---- the rules of the format

pub record KeepsRules (i : Image) : Type 0 where
  -- version 1, which has no count, or version 2
  pub version : ((i.version ≡ 1) × (i.count ≡ 0)) ⊎ (i.version ≡ 2)
  -- whole instructions
  pub text : length i.text % 4 ≡ 0
  -- by strictly ascending offset, each in the text, and of kind 0 or 1
  pub ascend : IsStrictlyIncreasing (map (λ l. l.at) i.lines)
  pub in_text : All (λ l. l.at < length i.text) i.lines
  pub kinds : All (λ l. l.kind < 2) i.lines
