-- The bytes of numbers that stand in an object.
use Rattle.std.proofs.Common.{◌≡◌, ℕ, zero, suc, ◌+◌, ◌-◌, ◌*◌, ◌/◌, ◌%◌, ◌^◌, ◌<◌, ◌≤◌, ◌≢◌, min, max, Bool, true}
use Rattle.std.proofs.Common.{false}
use Rattle.std.proofs.Common.{cond, eqb, List, [], ◌∷◌, length, get_or, map, refl, sym, ap, subst, ◌∙◌, inl, inr}
use Rattle.std.proofs.Common.{arith, take, ◌++◌}
use Rattle.std.specs.Prelude.{nat_lt, nat_le, replicate}
use Rattle.std.specs.List.{All}
use Rattle.std.proofs.Math.Nat.{div-div-eq-div-mul, div-one, zero-div, pow-suc, pow-succ'}
use Rattle.std.proofs.lemmas.Bool.{leb-true, ne_eqb}
use Rattle.std.proofs.lemmas.Bool.Decides.{nat_tests, eqb_tells}
use Rattle.std.proofs.lemmas.Grind.{pow_more, common_steps}
use Rattle.std.proofs.lemmas.List.Folds.{fold-map}
use Rattle.c_tree.specs.Scopes.{Aiming}
use Rattle.c_tree.specs.Statics as meant
use Rattle.c_tree.specs.Statics.{significant, end_of, byte_in, byte_at, bytes_from, initial_length, initial_bytes}
use Rattle.c_plain_parts.specs.declared.bytes.Placed.{Placed}
use Rattle.c_plain_parts.specs.Placing.{placed_of, end_in, greatest_end, written_at, pointers_end}

-- ---- how many bytes count

pub significant-step : (n m v : ℕ) → n ≡ suc m → v ≢ 0 → significant n v ≡ significant m (v / 256) + 1
significant-step n m v e h = let f : eqb v 0 ≡ false = ne_eqb v 0 h in rw (e, f) refl

pub next-byte : (n j l : ℕ) → l ≡ n / 256 ^ j → l / 256 ≡ n / 256 ^ (j + 1)
next-byte n j l h = ap (λ m. m / 256) h ∙ div-div-eq-div-mul n (256 ^ j) 256 ∙ ap (λ m. n / m) (sym (pow_more 256 j))

-- ---- a number, byte by byte

-- its first so many bytes
abbrev pub cut : Placed → ℕ → meant.Placed
cut x j = record { at = x.at; width = j; number = x.number }

byte_in-other : (x : Placed) (j k b : ℕ) → (k ≡ x.at + j → ⊥) → byte_in k b (cut x (j + 1)) ≡ byte_in k b (cut x j)
byte_in-other x j k b h = let e : nat_lt k (x.at + (j + 1)) ≡ nat_lt k (x.at + j) = grind (arith, nat_tests) in
    rw e refl

byte_in-here : (x : Placed) (j k b : ℕ) → k ≡ x.at + j → byte_in k b (cut x (j + 1)) ≡ x.number / 256 ^ j % 256
byte_in-here x j k b h =
    let e : nat_le x.at k ≡ true = grind (arith, nat_tests) in
    let f : nat_lt k (x.at + (j + 1)) ≡ true = grind (arith, nat_tests) in
    let g : k - x.at ≡ j = omega arith in
    rw (e, f, g) refl

-- one more byte of a number is written over what stands there
pub put-more : (x : Placed) (old mid new : List ℕ) (j l : ℕ) → l ≡ x.number / 256 ^ j →
    ((k : ℕ) → get_or mid k 0 ≡ byte_in k (get_or old k 0) (cut x j)) → get_or new (x.at + j) 0 ≡ l % 256 →
    ((k : ℕ) → (k ≡ x.at + j → ⊥) → get_or new k 0 ≡ get_or mid k 0) → (k : ℕ) →
    get_or new k 0 ≡ byte_in k (get_or old k 0) (cut x (j + 1))
put-more x old mid new j l hl before same others k =
    elim (eqb_tells k (x.at + j)) as (λ _. get_or new k 0 ≡ byte_in k (get_or old k 0) (cut x (j + 1))) [
      | inl h ↦
          let e : get_or new k 0 ≡ l % 256 = subst (λ m. get_or new m 0 ≡ l % 256) (sym h.1) same in
          e ∙ ap (λ m. m % 256) hl ∙ sym (byte_in-here x j k (get_or old k 0) h.1)
      | inr h ↦ others k h.1 ∙ before k ∙ sym (byte_in-other x j k (get_or old k 0) h.1)
    ]

-- as far as there are bytes
pub put-done : (x : Placed) (count room k b : ℕ) → count ≡ min x.width (room - x.at) → k < room →
    byte_in k b (cut x count) ≡ byte_in k b (placed_of x)
put-done x count room k b h l = by_start (nat_le x.at k) refl
  where
    by_start : (a : Bool) → nat_le x.at k ≡ a → byte_in k b (cut x count) ≡ byte_in k b (placed_of x)
    by_start false e = rw e refl
    by_start true e =
        let le : x.at ≤ k = leb-true x.at k e in
        let f : nat_lt k (x.at + count) ≡ nat_lt k (x.at + x.width) = grind (arith, nat_tests) in
        rw (e, f) refl

-- ---- all the numbers

pub bytes-are : (bs : List ℕ) (xs : List meant.Placed) (from : ℕ) →
    ((k : ℕ) → k < length bs → get_or bs k 0 ≡ byte_at xs (from + k)) → bs ≡ bytes_from xs from (length bs)
bytes-are [] xs from h = refl
bytes-are (b ∷ bs) xs from h =
    let e : from + 0 ≡ from = omega arith in
    let i = h 0 (omega arith) in
    let f : b ≡ byte_at xs from = i ∙ ap (byte_at xs) e in
    let r = bytes-are bs xs (from + 1) (λ k l. h (suc k) (omega arith) ∙ ap (byte_at xs) (further k)) in
    cc
  where
    further : (k : ℕ) → from + suc k ≡ from + 1 + k
    further k = omega arith

-- the bytes that all the numbers come to, up to the greater of their end and that of the pointers
pub bytes_of_all : (bs : List ℕ) (xs : List Placed) (ls : List Aiming) (end : ℕ) → pointers_end ls ≡ end →
    length bs ≡ max (greatest_end xs) end → ((k : ℕ) → k < length bs → get_or bs k 0 ≡ written_at k 0 xs) →
    bs ≡ initial_bytes (map placed_of xs) ls
bytes_of_all bs xs ls end p n h =
    let e : initial_length (map placed_of xs) ls ≡ length bs =
    ap (λ m. max m (pointers_end ls)) (fold-map (λ n x. max n (end_of x)) placed_of 0 xs)
    ∙ ap (max (greatest_end xs)) p ∙ sym n in
    bytes-are bs (map placed_of xs) 0 (λ k l. h k l ∙ sym (fold-map (byte_in k) placed_of 0 xs)
    ∙ ap (byte_at (map placed_of xs)) (omega arith)) ∙ ap (bytes_from (map placed_of xs) 0) (sym e)

pub front-all : (n : ℕ) (xs ys : List ℕ) → n ≡ length xs → take n (xs ++ ys) ≡ xs
front-all n xs ys h = grind (arith, common_steps)

pub zeros : (n k z : ℕ) → get_or (replicate n z) k z ≡ z
zeros zero k z = refl
zeros (suc n) zero z = refl
zeros (suc n) (suc k) z = zeros n k z
