-- Numbers in memory: the lowest byte first (RISC-V unprivileged ISA, little-endian memory).
use Rattle.std.specs.Prelude.{ℕ, ◌+◌, ◌*◌, List, [], ◌∷◌, take, drop}
use Rattle.std.specs.Int.{bytes_low_first}

-- the number that bytes spell
abbrev pub little_number : List ℕ → ℕ
little_number [] = 0
little_number (b ∷ bs) = b + 256 * little_number bs

-- word k of a text
abbrev pub word_in : List ℕ → ℕ → ℕ
word_in text k = little_number (take 4 (drop (4 * k) text))

-- the lowest n bytes of a number
unfoldable pub little_bytes : ℕ → ℕ → List ℕ
little_bytes n v = bytes_low_first 0 n v
