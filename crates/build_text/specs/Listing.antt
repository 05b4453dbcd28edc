-- The listing of a text: one line for each of its words.
use Rattle.std.specs.Prelude.{ℕ, zero, suc, ◌+◌, ◌*◌, ◌/◌, ◌%◌, List, [], ◌∷◌, ◌++◌, length, Option, Some}
use Rattle.std.specs.Prelude.{None, false, codes, decimal}
use Rattle.std.specs.Fmt.{digit_glyph}
use Rattle.rv_instr.specs.declared.instr.Instr.{Instr}
use Rattle.rv_code.specs.Decoding.{decode_of}
use Rattle.rv_text.specs.Listing.{text}
use Rattle.tag_mem.specs.Numbers.{word_in}
use Rattle.build_text.specs.Lines.{lines}

-- the last n hexadecimal digits of a number, in lower case
unfoldable pub last_digits : ℕ → ℕ → List ℕ
last_digits zero w = []
last_digits (suc n) w = last_digits n (w / 16) ++ digit_glyph false (w % 16) ∷ []

-- the text of a word's instruction; nothing where the word is none
abbrev pub instruction_text : Option Instr → List ℕ
instruction_text None = []
instruction_text (Some i) = text i

-- the address in decimal, the word as eight hexadecimal digits, and its instruction
abbrev pub word_line : ℕ → ℕ → List ℕ
word_line at w = decimal at ++ codes " " ++ last_digits 8 w ++ codes " " ++ instruction_text (decode_of w) ++ codes "\n"

-- the listing of a text that begins at this address
abbrev pub listing_text : ℕ → List ℕ → List ℕ
listing_text base bytes = lines (λ k. word_line (base + 4 * k) (word_in bytes k)) (length bytes / 4)
