-- The numbers of a file, each little endian: half words, words and extended words, as ELF64 calls them. Its addresses
-- and offsets are extended words too.
use Rattle.std.specs.Prelude.{ℕ, ◌+◌, ◌<◌, ◌^◌, ◌==◌, ◌&&◌, Bool, true, List, [], ◌∷◌, drop}
use Rattle.std.specs.List.{flat_map}
use Rattle.byteorder.specs.Endian.{little_bytes, little_number}
use Rattle.elf_file.specs.declared.field.Field.{Field}
use Rattle.elf_file.specs.declared.field.Field.TheVariants.{Half, Word, Xword}

-- how many bytes a field has
abbrev pub width_of : Field → ℕ
width_of (Half value) = 2
width_of (Word value) = 4
width_of (Xword value) = 8

abbrev pub value_of : Field → ℕ
value_of (Half value) = value
value_of (Word value) = value
value_of (Xword value) = value

-- the bytes of a field
abbrev pub bytes_of : Field → List ℕ
bytes_of f = little_bytes (width_of f) (value_of f)

-- the bytes of the fields, one after the other
unfoldable pub spelled : List Field → List ℕ
spelled fs = flat_map bytes_of fs

-- each value fits its width
unfoldable pub Fit : List Field → Type 0
Fit [] = Unit {0}
Fit (f ∷ fs) = (value_of f < 256 ^ width_of f) × Fit fs

-- the number in the first bytes
unfoldable pub number : ℕ → List ℕ → ℕ
number width bytes = little_number width bytes

-- the numbers at a place
abbrev pub half_at : ℕ → List ℕ → ℕ
half_at place bytes = number 2 (drop place bytes)

abbrev pub word_at : ℕ → List ℕ → ℕ
word_at place bytes = number 4 (drop place bytes)

abbrev pub xword_at : ℕ → List ℕ → ℕ
xword_at place bytes = number 8 (drop place bytes)

-- the bytes begin with these fields
unfoldable pub meets : List Field → List ℕ → Bool
meets [] bytes = true
meets (f ∷ fs) bytes = number (width_of f) bytes == value_of f && meets fs (drop (width_of f) bytes)

-- how many bytes the fields have
unfoldable pub size_of : List Field → ℕ
size_of [] = 0
size_of (f ∷ fs) = width_of f + size_of fs
