-- The number that bytes spell, and the bytes of a number.
use Rattle.std.proofs.Common.{◌≡◌, ℕ, zero, suc, ◌+◌, ◌-◌, ◌*◌, ◌/◌, ◌%◌, ◌^◌, ◌<◌, ◌≤◌, List, [], ◌∷◌, length}
use Rattle.std.proofs.Common.{take, drop, get_or, refl, sym, ap, ◌∙◌, arith}
use Rattle.std.specs.Prelude.{All}
use Rattle.std.specs.Int.{byte_at, byte_worth, bytes_low_first, from_le_bytes, sum_through, w64, w128}
use Rattle.std.proofs.lemmas.List.Elements.{All-head, All-tail, All-from_get_or}
use Rattle.std.proofs.Math.Nat.{div-div-eq-div-mul, div-one, pow-suc, pow-succ', mul_comm, one-le-pow}
use lib.Arith.{mod-mul}
use Rattle.tag_mem.specs.Numbers.{little_number, little_bytes}

-- what the bytes up to the place k are worth
worth : List ℕ → ℕ → ℕ
worth bytes k = sum_through (λ i. byte_worth i (get_or bytes i 0)) k

worth-nil : (k : ℕ) → worth [] k ≡ 0
unfolding worth
worth-nil zero = refl
worth-nil (suc k) = omega (arith, worth-nil k)

worth-one : (b : ℕ) → worth (b ∷ []) 0 ≡ b + 256 * 0
unfolding worth
worth-one b = omega arith

worth-cons : (b : ℕ) (bs : List ℕ) (k : ℕ) → worth (b ∷ bs) (suc k) ≡ b + 256 * worth bs k
unfolding worth
worth-cons b bs zero = omega arith
worth-cons b bs (suc k) = rw (worth-cons b bs k, pow-suc 256 (suc k)) (omega arith)

-- as many bytes as there are places are worth the number that they spell
worth-number : (bs : List ℕ) (k : ℕ) → length bs ≤ suc k → worth bs k ≡ little_number bs
worth-number [] k h = worth-nil k
worth-number (b ∷ []) zero h = worth-one b
worth-number (b ∷ (x ∷ bs)) zero h = absurd (omega arith)
worth-number (b ∷ bs) (suc k) h = rw (worth-cons b bs k, worth-number bs k (omega arith)) refl

-- sixteen bytes
pub number-whole : (bs : List ℕ) → length bs ≡ 16 → from_le_bytes w128 bs ≡ little_number bs
unfolding worth
number-whole bs size = worth-number bs 15 (omega (arith, size))

-- eight bytes
pub number-half : (bs : List ℕ) → length bs ≡ 8 → from_le_bytes w64 bs ≡ little_number bs
unfolding worth
number-half bs size = worth-number bs 7 (omega (arith, size))

-- n bytes spell no number of more bytes
pub number-below : (bs : List ℕ) → All (λ b. b < 256) bs → little_number bs < 256 ^ length bs
number-below [] h = omega arith
number-below (b ∷ bs) h =
    let low = All-head (λ b. b < 256) b bs h in
    let rest = number-below bs (All-tail (λ b. b < 256) b bs h) in
    rw (pow-suc 256 (length bs)) (omega arith)

-- ---- the bytes of a number

byte_at-pow : (k v : ℕ) → byte_at k v ≡ v / 256 ^ k % 256
byte_at-pow zero v = ap (λ (n : ℕ). n % 256) (sym (div-one v))
byte_at-pow (suc k) v = refl

length-bytes : (i n v : ℕ) → length (bytes_low_first i n v) ≡ n
length-bytes i zero v = refl
length-bytes i (suc n) v = omega (arith, length-bytes (suc i) n v)

get_or-bytes : (i n v k : ℕ) → k < n → get_or (bytes_low_first i n v) k 0 ≡ byte_at (i + k) v
get_or-bytes i zero v k h = absurd (omega arith)
get_or-bytes i (suc n) v zero h = ap (λ j. byte_at j v) (omega arith)
get_or-bytes i (suc n) v (suc k) h = get_or-bytes (suc i) n v k (omega arith) ∙ ap (λ j. byte_at j v) (omega arith)

take-bytes : (i k n v : ℕ) → n ≤ k → take n (bytes_low_first i k v) ≡ bytes_low_first i n v
take-bytes i k zero v h = refl
take-bytes i zero (suc n) v h = absurd (omega arith)
take-bytes i (suc k) (suc n) v h = ap (λ bs. byte_at i v ∷ bs) (take-bytes (suc i) k n v (omega arith))

pub length-little_bytes : (n v : ℕ) → length (little_bytes n v) ≡ n
unfolding little_bytes
length-little_bytes n v = length-bytes 0 n v

-- the byte k of a number
pub get_or-little_bytes : (n v k : ℕ) → k < n → get_or (little_bytes n v) k 0 ≡ v / 256 ^ k % 256
unfolding little_bytes
get_or-little_bytes n v k h = get_or-bytes 0 n v k h ∙ ap (λ j. byte_at j v) (omega arith) ∙ byte_at-pow k v

-- each of them is a byte
pub small-little_bytes : (n v : ℕ) → All (λ b. b < 256) (little_bytes n v)
small-little_bytes n v = All-from_get_or (λ b. b < 256) (little_bytes n v) 0
    (λ k h. let here : k < n = omega (arith, length-little_bytes n v) in
    rw (get_or-little_bytes n v k here) (omega arith))

-- the low bytes of a number among its bytes
pub take-little_bytes : (k n v : ℕ) → n ≤ k → take n (little_bytes k v) ≡ little_bytes n v
unfolding little_bytes
take-little_bytes k n v h = take-bytes 0 k n v h

-- ---- back and forth

quotient : (v k : ℕ) → v / 256 ^ suc k ≡ v / 256 / 256 ^ k
quotient v k = ap (λ p. v / p) (pow-succ' 256 k) ∙ sym (div-div-eq-div-mul v 256 (256 ^ k))

-- a byte k of the number that bytes spell
pub number-byte : (bs : List ℕ) (k : ℕ) → All (λ b. b < 256) bs → k < length bs →
    little_number bs / 256 ^ k % 256 ≡ get_or bs k 0
number-byte [] k small h = absurd (omega arith)
number-byte (b ∷ bs) zero small h = let low = All-head (λ b. b < 256) b bs small in omega (arith, low)
number-byte (b ∷ bs) (suc k) small h =
    let low = All-head (λ b. b < 256) b bs small in
    let up : (b + 256 * little_number bs) / 256 ^ suc k ≡ little_number bs / 256 ^ k =
    quotient (b + 256 * little_number bs) k ∙ ap (λ n. n / 256 ^ k) (omega (arith, low)) in
    rw up (number-byte bs k (All-tail (λ b. b < 256) b bs small) (omega arith))

-- bytes that are those of a number spell it
pub number-spelled : (bs : List ℕ) (v : ℕ) → ((k : ℕ) → k < length bs → get_or bs k 0 ≡ v / 256 ^ k % 256) →
    v < 256 ^ length bs → little_number bs ≡ v
number-spelled [] v each below = omega arith
number-spelled (b ∷ bs) v each below =
    let low : b ≡ v % 256 = each 0 (omega arith) ∙ ap (λ n. n % 256) (div-one v) in
    let wide : v < 256 ^ length bs * 256 = rw (← pow-suc 256 (length bs)) below in
    let high : v / 256 < 256 ^ length bs = omega (arith, wide) in
    let rest = number-spelled bs (v / 256) (λ k h. each (suc k) (omega arith) ∙ ap (λ n. n % 256) (quotient v k)) high
    in
    omega (arith, low, rest)

-- ---- parts of a number

-- the number of the bytes from a place on
pub number-drop : (bs : List ℕ) (k : ℕ) → All (λ b. b < 256) bs → little_number (drop k bs) ≡ little_number bs / 256 ^ k
number-drop bs zero small = sym (div-one (little_number bs))
number-drop [] (suc k) small = omega (arith, below_zero (256 ^ suc k)) where
  below_zero : (n : ℕ) → 0 / n ≡ 0
  below_zero n = omega arith
number-drop (b ∷ bs) (suc k) small =
    let low = All-head (λ b. b < 256) b bs small in
    number-drop bs k (All-tail (λ b. b < 256) b bs small) ∙ ap (λ n. n / 256 ^ k) (omega (arith, low))
    ∙ sym (quotient (b + 256 * little_number bs) k)

-- the number of the first bytes
pub number-take : (bs : List ℕ) (n : ℕ) → All (λ b. b < 256) bs → little_number (take n bs) ≡ little_number bs % 256 ^ n
number-take bs zero small = omega arith
number-take [] (suc n) small = omega (arith, below_zero (256 ^ suc n)) where
  below_zero : (n : ℕ) → 0 % n ≡ 0
  below_zero n = omega arith
number-take (b ∷ bs) (suc n) small =
    let low = All-head (λ b. b < 256) b bs small in
    rw (pow-succ' 256 n, number-take bs n (All-tail (λ b. b < 256) b bs small))
    (split b (little_number bs) (256 ^ n) low (one-le-pow n 256 (omega arith))) where
      split : (b v p : ℕ) → b < 256 → 0 < p → b + 256 * (v % p) ≡ (b + 256 * v) % (256 * p)
      split b v p low some =
          let whole : (b + 256 * v) % (p * 256) ≡ ((b + 256 * v) / 256 % p) * 256 + (b + 256 * v) % 256 =
          mod-mul (b + 256 * v) {m = p} {c = 256} some (omega arith) in
          let high : (b + 256 * v) / 256 ≡ v = omega (arith, low) in
          let rest : (b + 256 * v) % 256 ≡ b = omega (arith, low) in
          let sum : (v % p) * 256 + b ≡ b + 256 * (v % p) = omega arith in
          sym (ap (λ (m : ℕ). (b + 256 * v) % m) (mul_comm 256 p) ∙ whole
          ∙ ap (λ (x : ℕ). (x % p) * 256 + (b + 256 * v) % 256) high ∙ ap (λ (x : ℕ). (v % p) * 256 + x) rest
          ∙ sum)
