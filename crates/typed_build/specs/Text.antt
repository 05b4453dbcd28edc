-- The text of an image.
use Rattle.std.specs.Prelude.{ℕ, ◌≡◌, ◌≤◌, ◌+◌, ◌-◌, ◌*◌, ◌/◌, pos, List, ◌++◌, length, replicate}
use Rattle.std.specs.List.{flat_map}
use Rattle.accepted_files.specs.Accepted.{weight_limit}
use Rattle.cap_concentrate.specs.Rounding.{owned, rounded_up}
use Rattle.rv_instr.specs.declared.instr.Instr.{Instr}
use Rattle.rv_instr.specs.declared.instr.Instr.TheVariants.{Cjal}
use Rattle.rv_code.specs.Formats.{word_of}
use Rattle.rv_code.specs.Encoding.{fields_of}
use Rattle.tag_mem.specs.Numbers.{little_bytes}

-- the most bytes of a file's code: 128 for each unit of its weight, and 4,096 more
abbrev pub code_limit : ℕ
code_limit = 128 * weight_limit + 4096

-- the bytes of an instruction's word, the lowest first
abbrev pub instr_bytes : Instr → List ℕ
instr_bytes i = little_bytes 4 (word_of (fields_of i))

abbrev pub code_bytes : List Instr → List ℕ
code_bytes code = flat_map instr_bytes code

-- so many words `cjal c0,0`, each a jump to itself
abbrev pub filler : ℕ → List Instr
filler count = replicate count (Cjal 0 (pos 0))

-- The length of a text for so many words of code: they are rounded up to whole granules, and these to their owned
-- length, so that the text has bounds of its own
abbrev pub text_length : ℕ → ℕ
text_length words = owned (rounded_up (4 * words) 16)

-- the words that fill it
abbrev pub missing : ℕ → ℕ
missing words = text_length words / 4 - words

abbrev pub text_of : List Instr → List ℕ
text_of code = code_bytes code ++ code_bytes (filler (missing (length code)))

-- A text of code of at most so many bytes, filled
pub record IsFilled (most : ℕ) (text : List ℕ) : Type 0 where
  pub code : List Instr
  pub is : text ≡ text_of code
  pub size : 4 * length code ≤ most
