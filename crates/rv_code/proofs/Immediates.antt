-- Immediates in two's complement: what the formats take apart is put together again, and the other way round.
use Rattle.std.proofs.Common.{◌≡◌, ℕ, zero, suc, ◌+◌, ◌-◌, ◌*◌, ◌%◌, ◌^◌, ◌<◌, ◌≤◌, cond, ltb, refl, ap, ◌∙◌, arith}
use Rattle.std.proofs.Common.{inl, inr}
use Rattle.std.specs.Prelude.{ℤ, pos, negsuc, neg_ℤ, ◌≤ℤ◌, ◌<ℤ◌}
use Rattle.std.specs.Int.{w32, cast_unsigned}
use Rattle.std.proofs.lemmas.Bool.{cases_lt, le-ltb, lt-ltb}
use Rattle.std.proofs.lemmas.Int.{ints}
use Rattle.rv_instr.specs.Range.{FitsBits, IsEven}
use Rattle.rv_code.specs.Formats.{bits, imm_bits}
use Rattle.rv_code.specs.Decoding.{sign_extended}

-- ---- numbers from -half to half - 1

abbrev Within : ℕ → ℤ → Type 0
Within half (pos n) = n < half
Within half (negsuc n) = n < half

-- two's complement of twice half
abbrev twos : ℕ → ℤ → ℕ
twos half (pos n) = n
twos half (negsuc n) = 2 * half - suc n

-- and back
abbrev signed : ℕ → ℕ → ℤ
signed half n = cond (ltb n half) (pos n) (negsuc (2 * half - suc n))

within : (h : ℕ) (z : ℤ) → (negsuc h ≤ℤ z) × (z <ℤ pos (suc h)) → Within (suc h) z
within h (pos n) f = omega (arith, ints, f.1)
within h (negsuc n) f = omega (arith, ints, f.0)

fits : (h : ℕ) (z : ℤ) → Within (suc h) z → (negsuc h ≤ℤ z) × (z <ℤ pos (suc h))
fits h (pos n) w = (omega (arith, ints), omega (arith, ints))
fits h (negsuc n) w = (omega (arith, ints), omega (arith, ints))

signed-twos : (half : ℕ) (z : ℤ) → Within half z → signed half (twos half z) ≡ z
signed-twos half (pos n) w = rw (lt-ltb n half w) refl
signed-twos half (negsuc n) w =
    let high : half ≤ 2 * half - suc n = omega arith in
    let back : 2 * half - suc (2 * half - suc n) ≡ n = omega arith in
    rw (le-ltb _ _ high) (ap negsuc back)

-- ---- the low bits of an immediate that fits

low12 : (z : ℤ) → Within 2048 z → cast_unsigned w32 z % 4096 ≡ twos 2048 z
low12 (pos n) w = omega arith
low12 (negsuc n) w = omega arith

low13 : (z : ℤ) → Within 4096 z → cast_unsigned w32 z % 8192 ≡ twos 4096 z
low13 (pos n) w = omega arith
low13 (negsuc n) w = omega arith

low21 : (z : ℤ) → Within 1048576 z → cast_unsigned w32 z % 2097152 ≡ twos 1048576 z
low21 (pos n) w = omega arith
low21 (negsuc n) w = omega arith

negated_zero : (k : ℕ) → neg_ℤ (pos k) ≡ pos 0 → k ≡ 0
negated_zero zero e = refl
negated_zero (suc k) e = absurd cc

same_pos : (a b : ℕ) → pos a ≡ pos b → a ≡ b
same_pos a b e = cc

parity : (z : ℤ) → IsEven z → cast_unsigned w32 z % 2 ≡ 0
parity (pos n) e = same_pos _ _ e
parity (negsuc n) e = let even : suc n % 2 ≡ 0 = negated_zero _ e in omega arith

IsEven-signed : (half n : ℕ) → n % 2 ≡ 0 → n < 2 * half → IsEven (signed half n)
IsEven-signed half n e below =
    elim (cases_lt n half) [
      | inl low ↦ rw (lt-ltb n half low) (ap pos e)
      | inr high ↦
          let even : suc (2 * half - suc n) % 2 ≡ 0 = omega arith in
          rw (le-ltb n half high) (ap (λ (k : ℕ). neg_ℤ (pos k)) even)
    ]

taken12 : (n : ℕ) → n < 4096 → Within 2048 (signed 2048 n) × (cast_unsigned w32 (signed 2048 n) % 4096 ≡ n)
taken12 n below =
    elim (cases_lt n 2048) [
      | inl low ↦ rw (lt-ltb n 2048 low) (low, omega arith)
      | inr high ↦ rw (le-ltb n 2048 high) (omega arith, omega arith)
    ]

taken13 : (n : ℕ) → n < 8192 → Within 4096 (signed 4096 n) × (cast_unsigned w32 (signed 4096 n) % 8192 ≡ n)
taken13 n below =
    elim (cases_lt n 4096) [
      | inl low ↦ rw (lt-ltb n 4096 low) (low, omega arith)
      | inr high ↦ rw (le-ltb n 4096 high) (omega arith, omega arith)
    ]

taken21 : (n : ℕ) → n < 2097152 →
    Within 1048576 (signed 1048576 n) × (cast_unsigned w32 (signed 1048576 n) % 2097152 ≡ n)
taken21 n below =
    elim (cases_lt n 1048576) [
      | inl low ↦ rw (lt-ltb n 1048576 low) (low, omega arith)
      | inr high ↦ rw (le-ltb n 1048576 high) (omega arith, omega arith)
    ]

-- ---- formats I and S: an upper part of seven bits, and a lower part of five

abbrev i_joined : ℕ → ℕ → ℕ
i_joined upper lower = upper * 2 ^ 5 + lower

i-low : (u : ℕ) → i_joined (bits u 11 5) (bits u 4 0) ≡ u % 4096
i-low u = omega arith

i-parts : (u upper lower : ℕ) → upper < 2 ^ 7 → lower < 2 ^ 5 → u % 4096 ≡ i_joined upper lower →
    (bits u 11 5 ≡ upper) × (bits u 4 0 ≡ lower)
i-parts u upper lower a b e = (omega arith, omega arith)

pub i-again : (z : ℤ) → FitsBits 12 z → sign_extended 12 (i_joined (imm_bits z 11 5) (imm_bits z 4 0)) ≡ z
i-again z f =
    let w = within 2047 z f in
    ap (sign_extended 12) (i-low (cast_unsigned w32 z) ∙ low12 z w) ∙ signed-twos 2048 z w

pub i-taken : (upper lower : ℕ) → upper < 2 ^ 7 → lower < 2 ^ 5 → let z = sign_extended 12 (i_joined upper lower) in
    FitsBits 12 z × (imm_bits z 11 5 ≡ upper) × (imm_bits z 4 0 ≡ lower)
i-taken upper lower a b =
    let t = taken12 (i_joined upper lower) (omega arith) in
    let p = i-parts _ upper lower a b t.1 in
    (fits 2047 _ t.0, p.0, p.1)

-- ---- format B: imm[12|10:5] and imm[4:1|11]

abbrev b_upper : ℕ → ℕ
b_upper u = bits u 12 12 * 2 ^ 6 + bits u 10 5

abbrev b_lower : ℕ → ℕ
b_lower u = bits u 4 1 * 2 + bits u 11 11

abbrev b_joined : ℕ → ℕ → ℕ
b_joined upper lower = bits upper 6 6 * 2 ^ 12 + bits lower 0 0 * 2 ^ 11 + bits upper 5 0 * 2 ^ 5 + bits lower 4 1 * 2

b-low : (u : ℕ) → u % 2 ≡ 0 → b_joined (b_upper u) (b_lower u) ≡ u % 8192
b-low u e = omega arith

b-parts : (u upper lower : ℕ) → upper < 2 ^ 7 → lower < 2 ^ 5 → u % 8192 ≡ b_joined upper lower →
    (b_upper u ≡ upper) × (b_lower u ≡ lower)
b-parts u upper lower a b e = (omega arith, omega arith)

pub b-again : (z : ℤ) → FitsBits 13 z → IsEven z → let u = cast_unsigned w32 z in
    sign_extended 13 (b_joined (b_upper u) (b_lower u)) ≡ z
b-again z f even =
    let w = within 4095 z f in
    ap (sign_extended 13) (b-low (cast_unsigned w32 z) (parity z even) ∙ low13 z w) ∙ signed-twos 4096 z w

pub b-taken : (upper lower : ℕ) → upper < 2 ^ 7 → lower < 2 ^ 5 → let z = sign_extended 13 (b_joined upper lower) in
    FitsBits 13 z × IsEven z × (b_upper (cast_unsigned w32 z) ≡ upper) × (b_lower (cast_unsigned w32 z) ≡ lower)
b-taken upper lower a b =
    let below : b_joined upper lower < 8192 = omega arith in
    let t = taken13 (b_joined upper lower) below in
    let p = b-parts _ upper lower a b t.1 in
    (fits 4095 _ t.0, IsEven-signed 4096 _ (omega arith) below, p.0, p.1)

-- ---- format J: imm[20|10:5], imm[4:1|11], imm[19:15] and imm[14:12]

abbrev j_upper : ℕ → ℕ
j_upper u = bits u 20 20 * 2 ^ 6 + bits u 10 5

abbrev j_joined : ℕ → ℕ → ℕ → ℕ → ℕ
j_joined funct7 rs2 rs1 funct3 =
    bits funct7 6 6 * 2 ^ 20 + rs1 * 2 ^ 15 + funct3 * 2 ^ 12 + bits rs2 0 0 * 2 ^ 11 + bits funct7 5 0 * 2 ^ 5
    + bits rs2 4 1 * 2

j-low : (u : ℕ) → u % 2 ≡ 0 → j_joined (j_upper u) (b_lower u) (bits u 19 15) (bits u 14 12) ≡ u % 2097152
j-low u e = omega arith

j-parts : (u funct7 rs2 rs1 funct3 : ℕ) → funct7 < 2 ^ 7 → rs2 < 2 ^ 5 → rs1 < 2 ^ 5 → funct3 < 2 ^ 3 →
    u % 2097152 ≡ j_joined funct7 rs2 rs1 funct3
    → (j_upper u ≡ funct7) × (b_lower u ≡ rs2) × (bits u 19 15 ≡ rs1) × (bits u 14 12 ≡ funct3)
j-parts u funct7 rs2 rs1 funct3 a b c d e = (omega arith, omega arith, omega arith, omega arith)

pub j-again : (z : ℤ) → FitsBits 21 z → IsEven z → let u = cast_unsigned w32 z in
    sign_extended 21 (j_joined (j_upper u) (b_lower u) (bits u 19 15) (bits u 14 12)) ≡ z
j-again z f even =
    let w = within 1048575 z f in
    ap (sign_extended 21) (j-low (cast_unsigned w32 z) (parity z even) ∙ low21 z w) ∙ signed-twos 1048576 z w

pub j-taken : (funct7 rs2 rs1 funct3 : ℕ) → funct7 < 2 ^ 7 → rs2 < 2 ^ 5 → rs1 < 2 ^ 5 → funct3 < 2 ^ 3
    → let z = sign_extended 21 (j_joined funct7 rs2 rs1 funct3) in let u = cast_unsigned w32 z in
    FitsBits 21 z × IsEven z × (j_upper u ≡ funct7) × (b_lower u ≡ rs2) × (bits u 19 15 ≡ rs1) × (bits u 14 12 ≡ funct3)
j-taken funct7 rs2 rs1 funct3 a b c d =
    let below : j_joined funct7 rs2 rs1 funct3 < 2097152 = omega arith in
    let t = taken21 (j_joined funct7 rs2 rs1 funct3) below in
    let p = j-parts _ funct7 rs2 rs1 funct3 a b c d t.1 in
    (fits 1048575 _ t.0, IsEven-signed 1048576 _ (omega arith) below, p.0, p.1, p.2, p.3)

-- ---- format U: imm[31:12] as a field of twenty bits

pub u-again : (n : ℕ) → n < 2 ^ 20 → bits n 19 13 * 2 ^ 13 + bits n 12 8 * 2 ^ 8 + bits n 7 3 * 2 ^ 3 + bits n 2 0 ≡ n
u-again n h = omega arith

abbrev u_joined : ℕ → ℕ → ℕ → ℕ → ℕ
u_joined funct7 rs2 rs1 funct3 = funct7 * 2 ^ 13 + rs2 * 2 ^ 8 + rs1 * 2 ^ 3 + funct3

pub u-taken : (funct7 rs2 rs1 funct3 : ℕ) → funct7 < 2 ^ 7 → rs2 < 2 ^ 5 → rs1 < 2 ^ 5 → funct3 < 2 ^ 3
    → let n = u_joined funct7 rs2 rs1 funct3 in
    (n < 2 ^ 20) × (bits n 19 13 ≡ funct7) × (bits n 12 8 ≡ rs2) × (bits n 7 3 ≡ rs1) × (bits n 2 0 ≡ funct3)
u-taken funct7 rs2 rs1 funct3 a b c d = (omega arith, omega arith, omega arith, omega arith, omega arith)
