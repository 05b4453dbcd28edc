-- The bounds that the fields of a capability give at an address (CHERI ISAv9, CHERI Concentrate, decoding).
-- The fields are numbers here: L is `internal`, t has the low 12 bits of T, and b has the 14 bits of B.
use Rattle.std.specs.Prelude.{ℕ, ◌+◌, ◌-◌, ◌*◌, ◌/◌, ◌%◌, ◌^◌, min, Bool, ◌&&◌, ◌==◌, nat_lt, if◌then◌else◌}
use Rattle.cap_concentrate.specs.declared.fields.Fields.{Fields}

-- a test as a number
abbrev pub one_where : Bool → ℕ
one_where p = (if p then 1 else 0)

-- the exponent E: in the internal form six bits, the low three of T above the low three of B, cut to 52, and else 0
unfoldable pub exponent : Bool → ℕ → ℕ → ℕ
exponent internal t b = (if internal then min 52 (t % 8 * 8 + b % 8) else 0)

-- what counts of T or B: in the internal form their low three bits hold E, and count as zero
unfoldable pub mantissa : Bool → ℕ → ℕ
mantissa internal x = (if internal then x / 8 * 8 else x)

-- the 14 bits of T, from what counts of its low 12 bits and of B: T[13:12] is B[13:12] + carry + L, modulo 4
unfoldable pub whole_top : Bool → ℕ → ℕ → ℕ
whole_top internal t b = (b / 4096 + one_where (nat_lt t (b % 4096)) + one_where internal) % 4 * 4096 + t

-- 1 where 14 bits are high: their top three are below R3, which is one less than the top three of B, modulo 8
unfoldable pub high : ℕ → ℕ → ℕ
high x b = one_where (nat_lt (x / 2048) ((b / 2048 + 7) % 8))

-- The 14 bits x above E zeros and below the upper bits of the address, in 65 bits. The upper bits are one more where
-- x alone is high, and one less where the address alone is. (The 2 ^ 65 keeps them from going below zero.)
unfoldable pub placed : ℕ → ℕ → ℕ → ℕ → ℕ
placed e address b x =
    ((address / 2 ^ (e + 14) + 2 ^ 65 + high x b - high (address / 2 ^ e % 16384) b) * 2 ^ (e + 14) + x * 2 ^ e) % 2 ^
    65

-- bit 64 of the top is inverted where E is below 51 and top[64:63] less base[63], modulo 4, exceeds 1
unfoldable pub corrected : ℕ → ℕ → ℕ → ℕ
corrected e base top =
    (if nat_lt e 51 && nat_lt 1 ((top / 2 ^ 63 + 4 - base / 2 ^ 63) % 4) then (top + 2 ^ 64) % 2 ^ 65 else top)

-- the base, in 64 bits
unfoldable pub base_of : Bool → ℕ → ℕ → ℕ → ℕ
base_of internal t b address =
    placed (exponent internal t b) address (mantissa internal b) (mantissa internal b) % 2 ^ 64

-- the top, in 65 bits
unfoldable pub top_of : Bool → ℕ → ℕ → ℕ → ℕ
top_of internal t b address =
    corrected (exponent internal t b) (base_of internal t b address)
    (placed (exponent internal t b) address (mantissa internal b)
    (whole_top internal (mantissa internal t) (mantissa internal b)))

-- the base and the top that the fields give with this address in place of their own
abbrev pub base_at : Fields → ℕ → ℕ
base_at f address = base_of f.internal f.t f.b address

abbrev pub top_at : Fields → ℕ → ℕ
top_at f address = top_of f.internal f.t f.b address

-- whether the fields give the same base and top with this address in place of their own
abbrev pub same_bounds : Fields → ℕ → Bool
same_bounds f address = base_at f address == base_at f f.address && top_at f address == top_at f f.address
