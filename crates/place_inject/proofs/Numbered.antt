-- The number that the bytes of an object are.
use Rattle.std.proofs.Common.{◌≡◌, ℕ, zero, suc, ◌+◌, ◌*◌, ◌/◌, ◌%◌, ◌^◌, ◌<◌, ◌≤◌, false, List, [], ◌∷◌, refl, sym, ap}
use Rattle.std.proofs.Common.{◌∙◌, subst, arith, Some, take, drop}
use Rattle.std.proofs.Math.Nat.{pow-succ'}
use Rattle.std.proofs.Math.Nat.{mul_assoc}
use Rattle.tag_mem.specs.Areas.{Area, IsMemory}
use Rattle.tag_mem.specs.Areas as area
use Rattle.tag_mem.specs.Memory.{number_at, Spells}
use Rattle.tag_mem.proofs.Reading.{number_at-Spells}
use Rattle.std.specs.Prelude.{slice_get}
use Rattle.obj_mem.specs.Values.{Value, Addresses, memory_bits}
use Rattle.obj_mem.specs.Objects.{Cell, Byte, Unwritten, PartOf, Shape, Content, Mode, Placed, byte_at, bytes_at}
use Rattle.obj_mem.specs.Objects.{byte_of, value_at, base_in, seen_through, cell_or}
use Rattle.obj_mem.specs.Access.{has_unwritten, has_part, number_of}
use Rattle.place_inject.specs.Objects.{IsByte, IsSound, Stands, number_in}
use Rattle.place_inject.proofs.Puts.{byte_of_is}
use Rattle.place_inject.proofs.Sound.{seen_byte}

-- what n cells from place i on are
pub record Numbered (d : Mode) (shapes : List Shape) (c : Content) (i n : ℕ) (cs : List Cell) : Type 0 where
  pub written : has_unwritten cs ≡ false
  pub whole : has_part cs ≡ false
  pub bytes : (k : ℕ) → k < n → byte_at d shapes c (i + k) ≡ Byte (byte_of (number_of cs) k)
  pub small : number_of cs < 256 ^ n

-- a cell that is a byte
pub record AByte (c : Cell) : Type 0 where
  pub byte : ℕ
  pub small : byte < 256
  pub is : c ≡ Byte byte

a_byte : (c : Cell) → IsByte c → AByte c
a_byte (Byte b) h = record { byte = b; small = h; is = refl }
a_byte Unwritten h = absurd h
a_byte (PartOf v k) h = absurd h

module _ (d : Mode) (shapes : List Shape) (c : Content) where
  by_place : (n i b r x : ℕ) → x ≡ b + 256 * r → b < 256 → byte_at d shapes c i ≡ Byte b
      → ((k : ℕ) → k < n → byte_at d shapes c (suc i + k) ≡ Byte (byte_of r k))
      → (k : ℕ) → k < suc n → byte_at d shapes c (i + k) ≡ Byte (byte_of x k)
  by_place n i b r x e s first rest zero l = ap (byte_at d shapes c) (let q : i + 0 ≡ i = omega arith in q) ∙ first
      ∙ ap Byte (let q : b ≡ x % 256 = omega arith in q)
  by_place n i b r x e s first rest (suc k) l =
      ap (byte_at d shapes c) (let q : i + suc k ≡ suc i + k = omega arith in q) ∙ rest k (omega arith)
      ∙ ap (λ y. Byte (byte_of y k)) (let q : r ≡ x / 256 = omega arith in q)

  pub numbered : (n i : ℕ) → ((k : ℕ) → k < n → IsByte (byte_at d shapes c (i + k)))
      → Numbered d shapes c i n (bytes_at d shapes c i n)
  numbered zero i h = record { written = refl; whole = refl; bytes = λ k l. absurd (omega arith); small = omega arith }
  numbered (suc n) i h =
      let start : i + 0 ≡ i = omega arith in
      let f = a_byte (byte_at d shapes c (i + 0)) (h 0 (omega arith)) in
      let rest = numbered n (suc i) (λ k l. let e : i + suc k ≡ suc i + k = omega arith in subst
      (λ j. IsByte (byte_at d shapes c j)) e (h (suc k) (omega arith))) in
      let cs = bytes_at d shapes c (suc i) n in
      let first : byte_at d shapes c i ≡ Byte f.byte = ap (byte_at d shapes c) (sym start) ∙ f.is in
      let small = f.small in
      let below = rest.small in
      let sum : number_of (byte_at d shapes c i ∷ cs) ≡ f.byte + 256 * number_of cs =
      ap (λ x. number_of (x ∷ cs)) first in
      record {
        written = ap (λ x. has_unwritten (x ∷ cs)) first ∙ rest.written;
        whole = ap (λ x. has_part (x ∷ cs)) first ∙ rest.whole;
        bytes = by_place n i f.byte (number_of cs) (number_of (byte_at d shapes c i ∷ cs)) sum small first rest.bytes;
        small = omega (arith, sum, pow-succ' 256 n, below, small);
      }

-- the first of some bytes, and those behind them
module _ (d : Mode) (shapes : List Shape) (c : Content) where
  pub bytes_take : (k n i : ℕ) → k ≤ n → take k (bytes_at d shapes c i n) ≡ bytes_at d shapes c i k
  bytes_take zero n i h = refl
  bytes_take (suc k) zero i h = absurd (omega arith)
  bytes_take (suc k) (suc n) i h = ap (λ cs. byte_at d shapes c i ∷ cs) (bytes_take k n (suc i) (omega arith))

  pub bytes_drop : (k n m i : ℕ) → n ≡ k + m → drop k (bytes_at d shapes c i n) ≡ bytes_at d shapes c (i + k) m
  bytes_drop zero n m i e = ap (bytes_at d shapes c i) (let q : n ≡ m = omega arith in q)
      ∙ ap (λ j. bytes_at d shapes c j m) (let q : i ≡ i + 0 = omega arith in q)
  bytes_drop (suc k) zero m i e = absurd (omega arith)
  bytes_drop (suc k) (suc n) m i e = bytes_drop k n m (suc i) (omega arith)
      ∙ ap (λ j. bytes_at d shapes c j m) (let q : suc i + k ≡ i + suc k = omega arith in q)

-- the low cells and the high ones
pub number_split : (k : ℕ) (cs : List Cell) → number_of cs ≡ number_of (take k cs) + 256 ^ k * number_of (drop k cs)
number_split zero cs = let e : 0 + 256 ^ 0 * number_of cs ≡ number_of cs = omega arith in sym e
number_split (suc k) [] = let e : 0 + 256 ^ suc k * 0 ≡ 0 = omega arith in sym e
number_split (suc k) (Byte b ∷ cs) = next b k (number_of cs) _ _ (number_split k cs) where
  next : (b k x y z : ℕ) → x ≡ y + 256 ^ k * z → b + 256 * x ≡ b + 256 * y + 256 ^ suc k * z
  next b k x y z e = let q : 256 ^ suc k * z ≡ 256 * (256 ^ k * z) = ap (λ v. v * z) (pow-succ' 256 k)
      ∙ mul_assoc 256 (256 ^ k) z in omega arith
number_split (suc k) (Unwritten ∷ cs) = next k (number_of cs) _ _ (number_split k cs) where
  next : (k x y z : ℕ) → x ≡ y + 256 ^ k * z → 256 * x ≡ 256 * y + 256 ^ suc k * z
  next k x y z e = let q : 256 ^ suc k * z ≡ 256 * (256 ^ k * z) = ap (λ v. v * z) (pow-succ' 256 k)
      ∙ mul_assoc 256 (256 ^ k) z in omega arith
number_split (suc k) (PartOf v j ∷ cs) = next k (number_of cs) _ _ (number_split k cs) where
  next : (k x y z : ℕ) → x ≡ y + 256 ^ k * z → 256 * x ≡ 256 * y + 256 ^ suc k * z
  next k x y z e = let q : 256 ^ suc k * z ≡ 256 * (256 ^ k * z) = ap (λ v. v * z) (pow-succ' 256 k)
      ∙ mul_assoc 256 (256 ^ k) z in omega arith

-- ---- in the memory of the machine

module _ (a : Addresses) (shapes : List Shape) (functions : ℕ) (s : Shape) (c : Content) (memory : List Area)
    (areas : IsMemory memory)
    (sound : IsSound shapes functions s c) (st : Stands a shapes s c memory) (aligned : s.base % 16 ≡ 0) where
  pub number_here : (i n : ℕ) → i + n ≤ s.owned → Numbered (Placed a) shapes c i n (bytes_at (Placed a) shapes c i n)
  number_here i n room = numbered (Placed a) shapes c n i (λ k l. seen_byte a shapes functions s c (i + k) sound
      (omega arith))

  pub number_read : (i n : ℕ) → i + n ≤ s.owned → i % 16 + n ≤ 16 → 0 < n
      → number_at memory (s.base + i) n ≡ Some (number_of (bytes_at (Placed a) shapes c i n))
  unfolding Spells
  number_read i n room inside some =
      let q = number_here i n room in
      let x : ℕ = number_of (bytes_at (Placed a) shapes c i n) in
      number_at-Spells memory (s.base + i) n x areas (omega arith) some q.small
      (λ k l. ap (area.byte_at memory) (let e : s.base + i + k ≡ s.base + (i + k) = omega arith in e)
      ∙ st.bytes (i + k) (omega arith)
      ∙ ap number_in (q.bytes k l) ∙ ap (λ y. Some y) (byte_of_is x k))

  -- a granule that holds a value has its bits
  pub value_read : (i : ℕ) (v : Value) → i % 16 ≡ 0 → i + 16 ≤ s.owned → value_at c (i / 16) ≡ Some v
      → memory_bits a (base_in shapes) v < 2 ^ 128
      → number_at memory (s.base + i) 16 ≡ Some (memory_bits a (base_in shapes) v)
  unfolding Spells
  value_read i v whole room e small =
      let x : ℕ = memory_bits a (base_in shapes) v in
      number_at-Spells memory (s.base + i) 16 x areas (omega arith) (omega arith) small
      (λ k l.
      let same : value_at c ((i + k) / 16) ≡ Some v = ap (value_at c) (let q : (i + k) / 16 ≡ i / 16 =
      omega arith in q) ∙ e in
      let place : (i + k) % 16 ≡ k = omega arith in
      ap (area.byte_at memory) (let q : s.base + i + k ≡ s.base + (i + k) = omega arith in q)
      ∙ st.bytes (i + k) (omega arith)
      ∙ ap (λ w. number_in (seen_through (Placed a) shapes w ((i + k) % 16) (cell_or (slice_get c.cells (i + k))))) same
      ∙ ap (λ y. Some (byte_of x y)) place ∙ ap (λ y. Some y) (byte_of_is x k))
