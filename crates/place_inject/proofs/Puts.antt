-- Cells and values that are put into lists, by place.
use Rattle.std.proofs.Common.{◌≡◌, ℕ, zero, suc, ◌+◌, ◌/◌, ◌%◌, ◌^◌, ◌<◌, ◌≤◌, List, [], ◌∷◌, length, replicate, refl}
use Rattle.std.proofs.Common.{sym, ap, ◌∙◌, arith, Some}
use Rattle.std.specs.Prelude.{slice_get, slice_set}
use Rattle.std.proofs.Math.Nat.{div-div-eq-div-mul, pow-succ'}
use Rattle.obj_mem.specs.Values.{Value}
use Rattle.obj_mem.specs.Objects.{Cell, Byte, Shape, Mode, cell_or, byte_of, part, parts, put_at}
use Rattle.obj_mem.specs.Access.{bytes_of}

-- ---- lists

pub get_here : {A : Type 0} (xs : List A) (k : ℕ) (x : A) → k < length xs → slice_get (slice_set xs k x) k ≡ Some x
get_here [] k x l = absurd (omega arith)
get_here (y ∷ xs) zero x l = refl
get_here (y ∷ xs) (suc k) x l = get_here xs k x (omega arith)

pub get_there : {A : Type 0} (xs : List A) (k i : ℕ) (x : A) → (i ≡ k → ⊥)
    → slice_get (slice_set xs k x) i ≡ slice_get xs i
get_there [] k i x d = refl
get_there (y ∷ xs) zero zero x d = absurd (d refl)
get_there (y ∷ xs) zero (suc i) x d = refl
get_there (y ∷ xs) (suc k) zero x d = refl
get_there (y ∷ xs) (suc k) (suc i) x d = get_there xs k i x (λ z. d (ap suc z))

pub set_length : {A : Type 0} (xs : List A) (k : ℕ) (x : A) → length (slice_set xs k x) ≡ length xs
set_length [] k x = refl
set_length (y ∷ xs) zero x = refl
set_length (y ∷ xs) (suc k) x = ap suc (set_length xs k x)

pub get_replicate : {A : Type 0} (n i : ℕ) (x : A) → i < n → slice_get (replicate n x) i ≡ Some x
get_replicate zero i x l = absurd (omega arith)
get_replicate (suc n) zero x l = refl
get_replicate (suc n) (suc i) x l = get_replicate n i x (omega arith)

-- ---- cells

abbrev pub cell_at : List Cell → ℕ → Cell
cell_at xs i = cell_or (slice_get xs i)

pub put_length : (xs : List Cell) (i : ℕ) (cs : List Cell) → length (put_at xs i cs) ≡ length xs
put_length xs i [] = refl
put_length xs i (c ∷ cs) = put_length (slice_set xs i c) (suc i) cs ∙ set_length xs i c

pub put_outside : (xs : List Cell) (i : ℕ) (cs : List Cell) (j : ℕ) → (i ≤ j → i + length cs ≤ j)
    → slice_get (put_at xs i cs) j ≡ slice_get xs j
put_outside xs i [] j h = refl
put_outside xs i (c ∷ cs) j h =
    put_outside (slice_set xs i c) (suc i) cs j (λ l. let q = h (omega arith) in omega arith)
    ∙ get_there xs i j c (λ e. let q = h (omega arith) in omega arith)

pub put_inside : (xs : List Cell) (i : ℕ) (cs : List Cell) (k j : ℕ) → j ≡ i + k → k < length cs → j < length xs
    → slice_get (put_at xs i cs) j ≡ slice_get cs k
put_inside xs i [] k j e h l = absurd (omega arith)
put_inside xs i (c ∷ cs) zero j e h l =
    let same : j ≡ i = omega arith in
    put_outside (slice_set xs i c) (suc i) cs j (λ q. absurd (omega arith)) ∙ rw same (get_here xs i c (omega arith))
put_inside xs i (c ∷ cs) (suc k) j e h l = put_inside (slice_set xs i c) (suc i) cs k j (omega arith) (omega arith)
    (omega (arith, set_length xs i c))

-- ---- the bytes of numbers

pub byte_of_is : (v k : ℕ) → byte_of v k ≡ v / 256 ^ k % 256
byte_of_is v zero = ap (λ x. x % 256) (omega arith)
byte_of_is v (suc k) = byte_of_is (v / 256) k ∙ ap (λ x. x % 256) (div-div-eq-div-mul v 256 (256 ^ k) ∙ ap
    (λ x. v / x) (sym (pow-succ' 256 k)))

pub bytes_length : (n v : ℕ) → length (bytes_of n v) ≡ n
bytes_length zero v = refl
bytes_length (suc n) v = ap suc (bytes_length n (v / 256))

pub bytes_get : (n v k : ℕ) → k < n → slice_get (bytes_of n v) k ≡ Some (Byte (byte_of v k))
bytes_get zero v k h = absurd (omega arith)
bytes_get (suc n) v zero h = refl
bytes_get (suc n) v (suc k) h = bytes_get n (v / 256) k (omega arith)

-- ---- the parts of a value

module _ (d : Mode) (shapes : List Shape) where
  pub parts_length : (v : Value) (k n : ℕ) → length (parts d shapes v k n) ≡ n
  parts_length v k zero = refl
  parts_length v k (suc n) = ap suc (parts_length v (suc k) n)

  pub parts_get : (v : Value) (k n j : ℕ) → j < n → slice_get (parts d shapes v k n) j ≡ Some (part d shapes v (k + j))
  parts_get v k zero j h = absurd (omega arith)
  parts_get v k (suc n) zero h = ap (λ x. Some (part d shapes v x)) (omega arith)
  parts_get v k (suc n) (suc j) h = parts_get v (suc k) n j (omega arith)
      ∙ ap (λ x. Some (part d shapes v x)) (omega arith)
