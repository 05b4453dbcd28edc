-- What stands in an object stays sound.
use Rattle.std.proofs.Common.{◌≡◌, ℕ, zero, suc, ◌+◌, ◌-◌, ◌*◌, ◌/◌, ◌%◌, ◌<◌, true, List, length, sym, ◌∙◌, subst}
use Rattle.std.proofs.Common.{arith, Option, Some, None, inl, inr}
use Rattle.std.proofs.lemmas.Bool.{cases_lt}
use Rattle.obj_mem.specs.Values.{Value, Addresses, is_tagged, memory_bits}
use Rattle.obj_mem.specs.Objects.{Cell, Shape, Content, Placed, value_at, seen_through, byte_at, byte_of, base_in}
use Rattle.obj_mem.specs.Objects.{put_at, parts, opened_by, opened, with_bytes, with_value}
use Rattle.obj_mem.specs.Access.{bytes_of}
use Rattle.place_inject.specs.Values.{IsKnown}
use Rattle.place_inject.specs.Objects.{IsByte, IsSound}
use Rattle.place_inject.proofs.Puts.{cell_at, set_length, put_length, put_outside, put_inside, parts_length, parts_get}
use Rattle.place_inject.proofs.Puts.{bytes_length, bytes_get}
use Rattle.place_inject.proofs.Contents.{bytes_cells, bytes_granules, bytes_held, value_held}

pub byte_small : (v k : ℕ) → byte_of v k < 256
byte_small v zero = omega arith
byte_small v (suc k) = byte_small (v / 256) k

pub AllBytes : List Cell → Type 0
AllBytes xs = (i : ℕ) → i < length xs → IsByte (cell_at xs i)

put_bytes : (xs : List Cell) (i : ℕ) (cs : List Cell) → AllBytes xs → AllBytes cs → AllBytes (put_at xs i cs)
unfolding AllBytes
put_bytes xs i cs h g j l =
    let l' : j < length xs = omega (arith, put_length xs i cs) in
    elim (cases_lt j i) as (λ _. IsByte (cell_at (put_at xs i cs) j)) [
      | inl b ↦ rw (put_outside xs i cs j (λ q. absurd (omega arith))) (h j l')
      | inr a ↦ elim (cases_lt j (i + length cs)) as (λ _. IsByte (cell_at (put_at xs i cs) j)) [
        | inl b ↦ rw (put_inside xs i cs (j - i) j (omega arith) (omega arith) l') (g (j - i) (omega arith))
        | inr b ↦ rw (put_outside xs i cs j (λ q. b)) (h j l')
      ]
    ]

number_bytes : (n v : ℕ) → AllBytes (bytes_of n v)
unfolding AllBytes
number_bytes n v j l = rw (bytes_get n v j (omega (arith, bytes_length n v))) (byte_small v j)

module _ (a : Addresses) (shapes : List Shape) where
  parts_bytes : (v : Value) (n : ℕ) → AllBytes (parts (Placed a) shapes v 0 n)
  unfolding AllBytes
  parts_bytes v n j l = rw (parts_get (Placed a) shapes v 0 n j (omega (arith, parts_length (Placed a) shapes v 0 n)))
      (byte_small (memory_bits a (base_in shapes) v) (0 + j))

  opened_bytes : (c : Content) (g : ℕ) (w : Option Value) → AllBytes c.cells
      → AllBytes (opened_by (Placed a) shapes c g w).cells
  opened_bytes c g None h = h
  opened_bytes c g (Some v) h = put_bytes c.cells (16 * g) (parts (Placed a) shapes v 0 16) h (parts_bytes v 16)

  -- plain bytes
  pub bytes_sound : (functions : ℕ) (s : Shape) (c : Content) (i : ℕ) (cs : List Cell) → AllBytes cs
      → IsSound shapes functions s c
      → IsSound shapes functions s (with_bytes (Placed a) shapes c i cs)
  unfolding AllBytes
  bytes_sound functions s c i cs own q =
      let d = Placed a in
      let long = q.cells in
      let size = bytes_cells d shapes c i cs in
      record {
        cells = size ∙ long;
        granules = bytes_granules d shapes c i cs ∙ q.granules;
        bytes = λ j l. put_bytes (opened d shapes c (i / 16)).cells i cs
            (opened_bytes c (i / 16) (value_at c (i / 16)) (λ k h. q.bytes k (omega (arith, long)))) own j
            (omega (arith, size, long));
        tagged = λ g v e. q.tagged g v (bytes_held d shapes c i cs g v e);
        known = λ g v e. q.known g v (bytes_held d shapes c i cs g v e);
      }

  pub number_sound : (functions : ℕ) (s : Shape) (c : Content) (i n v : ℕ) → IsSound shapes functions s c
      → IsSound shapes functions s (with_bytes (Placed a) shapes c i (bytes_of n v))
  number_sound functions s c i n v = bytes_sound functions s c i (bytes_of n v) (number_bytes n v)

  -- a tagged value
  pub value_sound : (functions : ℕ) (s : Shape) (c : Content) (i : ℕ) (v : Value) → i / 16 < length c.values
      → is_tagged v ≡ true → IsKnown shapes functions v
      → IsSound shapes functions s c → IsSound shapes functions s (with_value c i v)
  value_sound functions s c i v room t known q = record {
    cells = q.cells;
    granules = set_length c.values (i / 16) (Some v) ∙ q.granules;
    bytes = q.bytes;
    tagged = λ g x e. elim (value_held
        (Placed a) shapes c i v room g x e) as (λ _. is_tagged x ≡ true) [ inl z ↦ rw z t | inr z ↦ q.tagged g x z ];
    known = λ g x e. elim (value_held
        (Placed a) shapes c i v room g x e) as (λ _. IsKnown shapes functions x) [
          | inl z ↦ subst
              (IsKnown shapes functions) (sym z) known
          | inr z ↦ q.known g x z
        ];
  }

  -- the byte at a place
  pub seen_byte : (functions : ℕ) (s : Shape) (c : Content) (i : ℕ) → IsSound shapes functions s c → i < s.owned
      → IsByte (byte_at (Placed a) shapes c i)
  seen_byte functions s c i q l = by (value_at c (i / 16)) where
    by : (w : Option Value) → IsByte (seen_through (Placed a) shapes w (i % 16) (cell_at c.cells i))
    by None = q.bytes i l
    by (Some v) = byte_small (memory_bits a (base_in shapes) v) (i % 16)
