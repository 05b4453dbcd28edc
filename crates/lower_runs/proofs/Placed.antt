-- The operations of the placed meaning under a legal map are what the code asks for.
use Rattle.std.proofs.Common.{◌≡◌, ℕ, zero, suc, ◌+◌, ◌≤◌, ◌<◌, Bool, true, false, not, List, [], ◌∷◌, ◌++◌}
use Rattle.std.proofs.Common.{length}
use Rattle.std.proofs.Common.{Option, Some, None, Result, Ok, Err, refl, sym, ap, subst, ◌∙◌, arith, if◌then◌else◌}
use Rattle.std.proofs.Common.{length-set, get_or}
use Rattle.std.specs.Prelude.{slice_get, slice_set, slice_index_or, nat_lt, nat_le, min, ◌&&◌, ◌||◌, ◌==◌, ◌*◌}
use Rattle.std.specs.Prelude.{◌/◌, ◌%◌, ◌^◌, ◌-◌, take, replicate}
use Rattle.std.proofs.lemmas.Bool.{eq-eqb, and_from}
use Rattle.std.proofs.lemmas.Nat.{and_le_l, pow_pos}
use Rattle.std.proofs.lemmas.Option.{slice_get-get_or}
use Rattle.std.proofs.Math.Nat.{mul-mod_left, min-le_right}
use Rattle.std.proofs.lemmas.Bool.Decides.{nat_tests}
use Rattle.ck_int.specs.declared.kinds.CmpOp.{CmpOp}
use Rattle.ck_int.specs.declared.kinds.CmpOp.TheVariants.{Lt, Le, Gt, Ge, Eq, Ne}
use Rattle.ck_int.specs.declared.kinds.IntKind.TheVariants as int
use Rattle.ck_int.specs.declared.kinds.IntOp.TheVariants.{Sub}
use Rattle.ck_int.specs.Arithmetic.{binary_of}
use Rattle.ck_int.proofs.OperationLaws.{IsKept-64, binary_of-Sub}
use Rattle.cap_concentrate.specs.Rounding.{least_base, least_top, owned, alignment, rounded_up}
use Rattle.cap_concentrate.specs.Decoding.{base_of}
use Rattle.cap_concentrate.specs.Packing.{fields_of, flipped}
use Rattle.cap_concentrate.proofs.Encoded.{encoded_decodes}
use Rattle.cap_concentrate.proofs.Least.{least_functions}
use Rattle.cap_concentrate.proofs.Owned.{owned_encodable}
use Rattle.obj_mem.specs.Values.{Value, Int, Live, Fun, Raw, Addresses, address_of, untagged, cleared}
use Rattle.obj_mem.specs.declared.map.Map.{Map}
use Rattle.obj_mem.specs.declared.ending.Fault.{Fault}
use Rattle.obj_mem.specs.declared.ending.UnitFault.{UnitFault}
use Rattle.obj_mem.specs.declared.ending.Reason.TheVariants as reason
use Rattle.obj_mem.specs.Objects.{Cell, Byte, Unwritten, PartOf, Life, Active, Inactive, Returned, Shape, Content}
use Rattle.obj_mem.specs.Objects.{Memory, Mode, Placed, base_in, base_of_shape, byte_of, held, value_at, cell_or}
use Rattle.obj_mem.specs.Objects.{seen_through, byte_at, bytes_at, put_at, parts, opened_by, opened, blank}
use Rattle.obj_mem.specs.Objects.{owned_of_shape, whole_pointer, with_life_by, with_life, zero_object}
use Rattle.obj_mem.specs.Access.{Spot, Piece, Tagged, Plain, onward, reach, outside_unless_active, at_place, at_spot}
use Rattle.obj_mem.specs.Access.{load_access, store_access, piece_of, fetch, with_piece, put, has_unwritten, has_part}
use Rattle.obj_mem.specs.Access.{number_of, read_as, known, loaded, load, bytes_of, stored_piece, store, carried}
use Rattle.obj_mem.specs.Access.{as_load, as_store, then_put, copy_unit}
use Rattle.obj_mem.specs.Comparisons.{compare, less_by}
use Rattle.obj_mem.specs.Heap.{allocation_alignment, refused, allocated, allocate}
use Rattle.obj_mem.specs.Legal.{Needs, IsLegal}
use Rattle.obj_mem.specs.Table.{addresses_of}
use Rattle.obj_mem.proofs.Powers.{power_one, length_aligned}
use Rattle.cheri_c_sem.specs.Modes.{Store, operations, placed_plan, work_of, with_memory, stored, copied, taken}
use Rattle.cheri_c_sem.specs.Operations as work
use Rattle.cheri_c_sem.specs.Operations.{Operations, Work}
use Rattle.obj_mem.specs.Pointers.{keeps, placed_move, placed_narrow, placed_at_address, at_offset}
use Rattle.obj_mem.specs.Pointers.{length_between, raw_base, raw_top}
use Rattle.cheri_c_sem.specs.Kinds as kinds
use Rattle.cheri_c_sem.specs.Kinds.{Kind}
use Rattle.lower_runs.specs.Sound.{IsPointer, IsSound, Each, IsStanding, IsByte, IsHeld, IsFilled}
use Rattle.lower_runs.specs.States.{IsOf, IsAnswered, IsOnward, IsWorkedOn, IsPlaced, kind_given}
use Rattle.lower_runs.proofs.Steps.{bool_is_of}

-- ---- pointers

module _ (a : Addresses) (entries : (f : ℕ) → a.entry f < 2 ^ 64) (base : ℕ → ℕ) where
  pub address_below : (v : Value) → IsPointer v → address_of a base v < 2 ^ 64
  address_below (Int n) h = absurd h
  address_below (Live object low high offset permissions) h = omega arith
  address_below (Fun f) h = entries f
  address_below (Raw address upper) h = h

  untagged_pointer : (v : Value) (to : ℕ) → to < 2 ^ 64 → IsPointer (untagged a base v to)
  untagged_pointer (Int n) to lt = lt
  untagged_pointer (Live object low high offset permissions) to lt = lt
  untagged_pointer (Fun f) to lt = lt
  untagged_pointer (Raw address upper) to lt = lt

  -- at another offset it has the same bounds, or no tag
  moved_pointer : (object low high offset permissions to : ℕ) → IsPointer (Live object low high offset permissions) →
      IsPointer (at_offset a base object low high offset permissions to)
  moved_pointer object low high offset permissions to h =
      by (keeps (base object + low) (base object + high) ((base object + to) % 2 ^ 64))
    where
      by : (b : Bool) → IsPointer (if b then Live object low high to permissions
          else untagged a base (Live object low high offset permissions) ((base object + to) % 2 ^ 64))
      by true = h
      by false = untagged_pointer (Live object low high offset permissions) ((base object + to) % 2 ^ 64) (omega arith)

  pub move_pointer : (v : Value) (n : ℕ) → IsPointer v → IsPointer (placed_move a base v n)
  move_pointer (Int i) n h = absurd h
  move_pointer (Live object low high offset permissions) n h =
      moved_pointer object low high offset permissions ((offset + n) % 2 ^ 64) h
  move_pointer (Fun f) n h = untagged_pointer (Fun f) ((a.entry f + n) % 2 ^ 64) (omega arith)
  move_pointer (Raw address upper) n h = omega arith

  pub set_pointer : (v : Value) (n : ℕ) → n < 2 ^ 64 → IsPointer v → IsPointer (placed_at_address a base v n)
  set_pointer (Int i) n lt h = absurd h
  set_pointer (Live object low high offset permissions) n lt h =
      moved_pointer object low high offset permissions ((n + 2 ^ 64 - base object) % 2 ^ 64) h
  set_pointer (Fun f) n lt h = untagged_pointer (Fun f) n lt
  set_pointer (Raw address upper) n lt h = lt

  -- narrower bounds lie inside the old ones
  pub narrow_pointer : (v : Value) (n : ℕ) (exact : Bool) → IsPointer v → IsPointer (placed_narrow a base v n exact)
  narrow_pointer (Int i) n exact h = absurd h
  narrow_pointer (Fun f) n exact h = untagged_pointer (Fun f) (a.entry f) (entries f)
  narrow_pointer (Raw address upper) n exact h = h
  narrow_pointer (Live object low high offset permissions) n exact h = by (within b t) refl
    where
      start : ℕ
      start = (base object + offset) % 2 ^ 64

      b : ℕ
      b = least_base start (start + n)

      t : ℕ
      t = least_top start (start + n)

      within : ℕ → ℕ → Bool
      within i j = nat_le (start + n) (2 ^ 64) && nat_le (base object + low) i && nat_le j (base object + high)
          && (not exact || (i == start && j == start + n))

      parts : (i j k l : Bool) → (i && j && k && l) ≡ true → (i ≡ true) × (k ≡ true)
      parts true true true l e = (refl, refl)
      parts true true false l e = absurd cc
      parts true false k l e = absurd cc
      parts false j k l e = absurd cc

      by : (c : Bool) → within b t ≡ c →
          IsPointer (if c then Live object (b - base object) (t - base object) offset permissions
          else cleared a base (Live object low high offset permissions))
      by false e = untagged_pointer (Live object low high offset permissions) ((base object + offset) % 2 ^ 64)
          (omega arith)
      by true e =
          let two = parts (nat_le (start + n) (2 ^ 64)) (nat_le (base object + low) b)
          (nat_le t (base object + high)) _ e in
          let room : start + n ≤ 2 ^ 64 = le_of (start + n) (2 ^ 64) two.0 in
          let below : t ≤ base object + high = le_of t (base object + high) two.1 in
          let least = least_functions start (start + n) (omega arith) room in
          let from = least.from in let to = least.to in let old = h.1 in
          (omega arith, omega arith, h.2)
        where
          le_of : (i j : ℕ) → nat_le i j ≡ true → i ≤ j
          le_of i j e2 = grind (arith, nat_tests)

  -- ---- moves and addresses

  module _ (small : (k : ℕ) → base k ≤ 2 ^ 40) where
    pub moves_by_address : (v : Value) (n : ℕ) → IsPointer v →
        placed_move a base v n ≡ placed_at_address a base v ((address_of a base v + n) % 2 ^ 64)
    moves_by_address (Int i) n h = absurd h
    moves_by_address (Fun f) n h = refl
    moves_by_address (Raw address upper) n h = refl
    moves_by_address (Live object low high offset permissions) n h =
        ap (at_offset a base object low high offset permissions) (there (base object) offset n (small object))
      where
        there : (b i n : ℕ) → b ≤ 2 ^ 40 →
            (i + n) % 2 ^ 64 ≡ (((b + i) % 2 ^ 64 + n) % 2 ^ 64 + 2 ^ 64 - b) % 2 ^ 64
        there b i n le = omega arith

    pub address_is : (v : Value) (n : ℕ) → n < 2 ^ 64 → IsPointer v →
        address_of a base (placed_at_address a base v n) ≡ n
    address_is (Int i) n lt h = absurd h
    address_is (Fun f) n lt h = refl
    address_is (Raw address upper) n lt h = refl
    address_is (Live object low high offset permissions) n lt h =
        by (keeps (base object + low) (base object + high) ((base object + to) % 2 ^ 64))
      where
        to : ℕ
        to = (n + 2 ^ 64 - base object) % 2 ^ 64

        back : (b n : ℕ) → b ≤ 2 ^ 40 → n < 2 ^ 64 → (b + (n + 2 ^ 64 - b) % 2 ^ 64) % 2 ^ 64 ≡ n
        back b n le lt2 = omega arith

        by : (c : Bool) → address_of a base (if c then Live object low high to permissions
            else untagged a base (Live object low high offset permissions) ((base object + to) % 2 ^ 64)) ≡ n
        by true = back (base object) n (small object) lt
        by false = back (base object) n (small object) lt

-- the difference of two addresses
pub difference_is : (a b : ℕ) → a < 2 ^ 64 → b < 2 ^ 64 → (a + 2 ^ 64 - b) % 2 ^ 64 ≡ binary_of Sub int.I64 a b
difference_is a b la lb = by a b lb ∙ sym (binary_of-Sub int.I64 a b refl la lb)
  where
    by : (a b : ℕ) → b < 2 ^ 64 → (a + 2 ^ 64 - b) % 2 ^ 64 ≡ (a + (2 ^ 64 - b)) % 2 ^ 64
    by a b lt = omega arith

-- ---- lists of which each member has a property

pub same_some : {A : Type 0} (x y : A) → Some x ≡ Some y → x ≡ y
same_some x y e = cc

pub each_get : {A : Type 0} (P : A → Type 0) (xs : List A) (i : ℕ) (x : A) → Each P xs → slice_get xs i ≡ Some x → P x
each_get P [] i x h e = absurd cc
each_get P (y ∷ ys) zero x h e = subst P (same_some y x e) h.0
each_get P (y ∷ ys) (suc i) x h e = each_get P ys i x h.1 e

pub each_set : {A : Type 0} (P : A → Type 0) (xs : List A) (i : ℕ) (x : A) → Each P xs → P x → Each P (slice_set xs i x)
each_set P [] i x h p = tt
each_set P (y ∷ ys) zero x h p = (p, h.1)
each_set P (y ∷ ys) (suc i) x h p = (h.0, each_set P ys i x h.1 p)

each_append : {A : Type 0} (P : A → Type 0) (xs ys : List A) → Each P xs → Each P ys → Each P (xs ++ ys)
each_append P [] ys h k = k
each_append P (x ∷ xs) ys h k = (h.0, each_append P xs ys h.1 k)

each_replicate : {A : Type 0} (P : A → Type 0) (x : A) (n : ℕ) → P x → Each P (replicate n x)
each_replicate P x zero p = tt
each_replicate P x (suc n) p = (p, each_replicate P x n p)

-- ---- bytes

byte_below : (n k : ℕ) → byte_of n k < 256
byte_below n zero = omega arith
byte_below n (suc k) = byte_below (n / 256) k

abbrev power : ℕ → ℕ
power zero = 1
power (suc k) = 256 * power k

power_positive : (k : ℕ) → 0 < power k
power_positive zero = omega arith
power_positive (suc k) = let h = power_positive k in omega arith

-- so many bytes are a number of so many
number_take : (k : ℕ) (cs : List Cell) → Each IsByte cs → number_of (take k cs) < power k
number_take zero cs h = omega arith
number_take (suc k) [] h = power_positive (suc k)
number_take (suc k) (Byte b ∷ cs) h = let ih = number_take k cs h.1 in let b_below = h.0 in omega arith
number_take (suc k) (Unwritten ∷ cs) h = let ih = number_take k cs h.1 in omega arith
number_take (suc k) (PartOf v i ∷ cs) h = let ih = number_take k cs h.1 in omega arith

-- where there is an answer it has a property
abbrev Answers : {A E : Type 0} → (A → Type 0) → Result A E → Type 0
Answers P (Ok x) = P x
Answers P (Err e) = Unit {0}

module _ (a : Addresses) where
  abbrev d : Mode
  d = Placed a

  -- ---- what is read

  byte_read : (shapes : List Shape) (c : Content) (i : ℕ) → IsFilled c → IsByte (byte_at d shapes c i)
  byte_read shapes c i h = by (value_at c (i / 16)) (slice_get c.cells i) refl
    where
      by : (o : Option Value) (x : Option Cell) → slice_get c.cells i ≡ x →
          IsByte (seen_through d shapes o (i % 16) (cell_or x))
      by (Some v) x e = byte_below _ (i % 16)
      by None None e = tt
      by None (Some y) e = each_get IsByte c.cells i y h.cells e

  bytes_read : (shapes : List Shape) (c : Content) (i n : ℕ) → IsFilled c → Each IsByte (bytes_at d shapes c i n)
  bytes_read shapes c i zero h = tt
  bytes_read shapes c i (suc n) h = (byte_read shapes c i h, bytes_read shapes c (suc i) n h)

  value_held : (c : Content) (i : ℕ) → IsFilled c → IsHeld (value_at c i)
  value_held c i h = by (slice_get c.values i) refl
    where
      by : (o : Option (Option Value)) → slice_get c.values i ≡ o → IsHeld (held o)
      by None e = tt
      by (Some None) e = tt
      by (Some (Some v)) e = each_get IsHeld c.values i (Some v) h.values e

  abbrev pub IsPiece : Piece → Type 0
  IsPiece (Tagged v) = IsPointer v
  IsPiece (Plain cs) = Each IsByte cs

  piece_read : (m : Memory) (c : Content) (s : Spot) (n : ℕ) → IsFilled c →
      IsPiece (piece_of d m c s n (value_at c (s.at / 16)))
  piece_read m c s n h = by (value_at c (s.at / 16)) (value_held c (s.at / 16) h)
    where
      by : (o : Option Value) → IsHeld o → IsPiece (piece_of d m c s n o)
      by None k = bytes_read m.shapes c s.at n h
      by (Some v) k = which (s.carries && n == 16)
        where
          which : (b : Bool) → IsPiece (if b then Tagged v else Plain (bytes_at d m.shapes c s.at n))
          which true = k
          which false = bytes_read m.shapes c s.at n h

  -- what an access that reaches an object answers
  reached : {A : Type 0} (P : A → Type 0) (m : Memory) (r : Result Spot Fault) (n : ℕ)
      (f : Spot → Content → Result A Fault)
      → ((s : Spot) (c : Content) → slice_get m.contents s.object ≡ Some c → Answers P (f s c))
      → Answers P (onward r (λ s. at_spot d m s n (f s)))
  reached P m (Err e) n f k = tt
  reached P m (Ok s) n f k = by (slice_get m.shapes s.object) (slice_get m.contents s.object) refl
    where
      by : (o : Option Shape) (c : Option Content) → slice_get m.contents s.object ≡ c →
          Answers P (at_place d m s n o c (f s))
      by None c e = tt
      by (Some o) None e = tt
      by (Some o) (Some c) e = alive o.life
        where
          alive : (l : Life) → Answers P (outside_unless_active l (f s c))
          alive Active = k s c e
          alive Inactive = tt
          alive Returned = tt

  abbrev Fetched : Memory → Piece → Type 0
  Fetched m u = Each IsFilled m.contents → IsPiece u

  fetched : (m : Memory) (p : Value) (n : ℕ) → Answers (Fetched m) (fetch d m p n)
  fetched m p n = reached (Fetched m) m (reach (load_access n) p) n
      (λ s c. Ok (piece_of d m c s n (value_at c (s.at / 16))))
      (λ s c e h. piece_read m c s n (each_get IsFilled m.contents s.object c h e))

  loaded_pointer : (u : Piece) → IsPiece u → Answers IsPointer (loaded 16 u)
  loaded_pointer (Tagged v) h = h
  loaded_pointer (Plain cs) h = by (has_unwritten cs) (has_part cs)
    where
      by : (x y : Bool) → Answers IsPointer (known x reason.Unwritten (known y reason.Address (Ok (read_as 16 cs))))
      by true y = tt
      by false true = tt
      by false false = number_take 8 cs h

  pub load_gives : (m : Memory) (p : Value) → Each IsFilled m.contents → Answers IsPointer (load d m p 16)
  unfolding load
  load_gives m p h = by (fetch d m p 16) (fetched m p 16)
    where
      by : (r : Result Piece Fault) → Answers (Fetched m) r → Answers IsPointer (onward r (loaded 16))
      by (Err e) k = tt
      by (Ok u) k = loaded_pointer u (k h)

  -- ---- what is written

  put_bytes : (xs cs : List Cell) (i : ℕ) → Each IsByte xs → Each IsByte cs → Each IsByte (put_at xs i cs)
  put_bytes xs [] i h k = h
  put_bytes xs (c ∷ cs) i h k = put_bytes (slice_set xs i c) cs (suc i) (each_set IsByte xs i c h k.0) k.1

  parts_bytes : (shapes : List Shape) (v : Value) (k n : ℕ) → Each IsByte (parts d shapes v k n)
  parts_bytes shapes v k zero = tt
  parts_bytes shapes v k (suc n) = (byte_below _ k, parts_bytes shapes v (suc k) n)

  opened_filled : (shapes : List Shape) (c : Content) (i : ℕ) → IsFilled c → IsFilled (opened d shapes c i)
  opened_filled shapes c i h = by (value_at c i)
    where
      by : (o : Option Value) → IsFilled (opened_by d shapes c i o)
      by None = h
      by (Some v) = record {
        cells = put_bytes c.cells (parts d shapes v 0 16) (16 * i) h.cells (parts_bytes shapes v 0 16);
        values = each_set IsHeld c.values i None h.values tt;
      }

  piece_filled : (shapes : List Shape) (c : Content) (i : ℕ) (u : Piece) → IsFilled c → IsPiece u →
      IsFilled (with_piece d shapes c i u)
  piece_filled shapes c i (Tagged v) h k =
      record { cells = h.cells; values = each_set IsHeld c.values (i / 16) (Some v) h.values k }
  piece_filled shapes c i (Plain cs) h k =
      let o = opened_filled shapes c (i / 16) h in
      record { cells = put_bytes (opened d shapes c (i / 16)).cells cs i o.cells k; values = o.values }

  -- the objects stay, and what stands in them stays bytes and pointers
  abbrev Keeps : Memory → Memory → Type 0
  Keeps m new = (new.shapes ≡ m.shapes) × (Each IsFilled m.contents → Each IsFilled new.contents)

  put_keeps : (m : Memory) (p : Value) (n : ℕ) (u : Piece) → Fetched m u → Answers (Keeps m) (put d m p n u)
  put_keeps m p n u k = reached (Keeps m) m (reach (store_access n u) p) n
      (λ s c. Ok (record m { contents = slice_set m.contents s.object (with_piece d m.shapes c s.at u) }))
      (λ s c e. (
        refl,
        λ h. each_set IsFilled m.contents s.object (with_piece d m.shapes c s.at u) h
            (piece_filled m.shapes c s.at u (each_get IsFilled m.contents s.object c h e) (k h)),
      ))

  pub bytes_all : (n x : ℕ) → Each IsByte (bytes_of n x)
  bytes_all zero x = tt
  bytes_all (suc n) x = (omega arith, bytes_all n (x / 256))

  pub stored_is : (k : Kind) (n : ℕ) (v : Value) → IsOf k v → IsPiece (stored_piece n v)
  stored_is k n (Int x) h = bytes_all n x
  stored_is k n (Raw address upper) h =
      each_append IsByte (bytes_of 8 address) (bytes_of 8 upper) (bytes_all 8 address) (bytes_all 8 upper)
  stored_is k n (Fun f) h = tt
  stored_is (kinds.Capability s) n (Live object low high offset permissions) h = h
  stored_is (kinds.Plain i) n (Live object low high offset permissions) h = absurd (no h.0 h.1)
    where
      no : (x : ℕ) → Live object low high offset permissions ≡ Int x → ⊥
      no x e = cc

  store_keeps : (m : Memory) (to v : Value) (n : ℕ) → IsPiece (stored_piece n v) → Answers (Keeps m) (store d m to n v)
  unfolding store
  store_keeps m to v n h = put_keeps m to n (stored_piece n v) (λ filled. h)

  carried_is : (m : Memory) (u : Piece) → Fetched m u → Answers (Fetched m) (carried u)
  carried_is m (Tagged v) k = k
  carried_is m (Plain cs) k = by (has_part cs)
    where
      by : (b : Bool) → Answers (Fetched m) (known b reason.Address (Ok (Plain cs)))
      by true = tt
      by false = k

  pub copy_keeps : (m : Memory) (from to : Value) (n : ℕ) → Answers (Keeps m) (copy_unit d m from to n)
  unfolding copy_unit
  copy_keeps m from to n = by (fetch d m from n) (fetched m from n)
    where
      stored : (r : Result Memory Fault) → Answers (Keeps m) r → Answers (Keeps m) (as_store r)
      stored (Err e) k = tt
      stored (Ok x) k = k

      again : (r : Result Piece Fault) → Answers (Fetched m) r → Answers (Keeps m) (then_put d m to n (as_load r))
      again (Err e) k = tt
      again (Ok u) k = stored (put d m to n u) (put_keeps m to n u k)

      by : (r : Result Piece Fault) → Answers (Fetched m) r →
          Answers (Keeps m) (then_put d m to n (as_load (onward r carried)))
      by (Err e) k = tt
      by (Ok u) k = again (carried u) (carried_is m u k)

  -- a block is entered
  life_owned : (shapes : List Shape) (k o : ℕ) (l : Life) (s : Shape) → slice_get shapes k ≡ Some s →
      owned_of_shape (slice_get (slice_set shapes k (record s { life = l })) o) ≡ owned_of_shape (slice_get shapes o)
  life_owned [] k o l s e = absurd cc
  life_owned (x ∷ xs) zero zero l s e = ap (λ (z : Shape). z.owned) (sym (same_some x s e))
  life_owned (x ∷ xs) zero (suc o) l s e = refl
  life_owned (x ∷ xs) (suc k) zero l s e = refl
  life_owned (x ∷ xs) (suc k) (suc o) l s e = life_owned xs k o l s e

  pub blank_filled : (n : ℕ) → IsFilled (blank d n)
  blank_filled n = record {
    cells = each_replicate IsByte (Byte 0) n (omega arith);
    values = each_replicate IsHeld None ((n + 15) / 16) tt;
  }

-- ---- single facts

same_ok : {A E : Type 0} (x y : A) (r : Result A E) → r ≡ Ok x → r ≡ Ok y → x ≡ y
same_ok x y r e f = cc

-- what is answered has the property
answered : {A E : Type 0} (P : A → Type 0) (r : Result A E) (x : A) → Answers P r → r ≡ Ok x → P x
answered P (Ok y) x h e = subst P (same_ok y x _ refl e) h
answered P (Err f) x h e = absurd cc

base_of_below : (i : Bool) (t b x : ℕ) → base_of i t b x < 2 ^ 64
unfolding base_of
base_of_below i t b x = omega arith

perms_below : (n : ℕ) → (fields_of n).perms < 4096
unfolding fields_of
perms_below n = omega arith

alignment_positive : (n : ℕ) → 0 < alignment n
unfolding alignment
alignment_positive n = by (nat_le n 4095) _
  where
    by : (b : Bool) (e : ℕ) → 0 < (if b then 1 else 2 ^ e)
    by true e = omega arith
    by false e = pow_pos e

length_below : (b t : ℕ) → length_between b t < 2 ^ 64
length_below b t = by (nat_lt t b)
  where
    by : (c : Bool) → (if c then 2 ^ 64 - 1 else min (t - b) (2 ^ 64 - 1)) < 2 ^ 64
    by true = omega arith
    by false = let le = min-le_right (t - b) (2 ^ 64 - 1) in omega arith

entries_below : (es : List ℕ) → ((f e : ℕ) → slice_get es f ≡ Some e → e < 2 ^ 64) → (f : ℕ) →
    slice_index_or es f 0 < 2 ^ 64
entries_below [] h f = omega arith
entries_below (e ∷ es) h zero = h 0 e refl
entries_below (e ∷ es) h (suc f) = entries_below es (λ g i q. h (suc g) i q) f

front : {A : Type 0} (xs ys : List A) (i : ℕ) → i < length xs → slice_get (xs ++ ys) i ≡ slice_get xs i
front [] ys i lt = absurd (omega arith)
front (x ∷ xs) ys zero lt = refl
front (x ∷ xs) ys (suc i) lt = front xs ys i (omega arith)

longer : {A : Type 0} (xs : List A) (x : A) → length xs ≤ length (xs ++ x ∷ [])
longer [] x = omega arith
longer (y ∷ ys) x = let le = longer ys x in omega arith

abbrev truth_answered : Bool → Result Bool Fault
truth_answered t = Ok t

opposite_of : (t b : Bool) → truth_answered (not t) ≡ Ok b → truth_answered t ≡ Ok (not b)
opposite_of true b e = ap (λ z. Ok (not z)) (same_ok false b _ refl e)
opposite_of false b e = ap (λ z. Ok (not z)) (same_ok true b _ refl e)

-- an object that is aligned to its length has exact bounds
pub exact_at : (start n : ℕ) → start + owned n ≤ 2 ^ 40 → start % alignment n ≡ 0 →
    keeps start (start + owned n) start ≡ true
unfolding keeps
exact_at start n le aligned =
    let enc = owned_encodable start n (omega arith) aligned in
    let d = encoded_decodes start (start + owned n) start enc (omega arith) (omega arith) (omega arith) in
    and_from _ _ (eq-eqb _ _ d.0) (eq-eqb _ _ d.1)

same_place : (b n : ℕ) → b ≤ 2 ^ 40 → keeps b (b + n) b ≡ true → keeps (b + 0) (b + n) ((b + 0) % 2 ^ 64) ≡ true
same_place b n le h =
    let here : b + 0 ≡ b = omega arith in
    let at : (b + 0) % 2 ^ 64 ≡ b = omega arith in
    ap (λ z. keeps z (b + n) ((b + 0) % 2 ^ 64)) here ∙ ap (keeps b (b + n)) at ∙ h

-- ---- the operations under a map

module _ (needs : Needs) (map : Map) (legal : IsLegal needs map) where
  abbrev pub at_map : Addresses
  at_map = addresses_of map

  abbrev ops : Operations Store
  ops = operations (placed_plan map)

  entries : (f : ℕ) → at_map.entry f < 2 ^ 64
  entries f = entries_below map.entries (λ g e q. let lt = (legal.in_text g e q).below in let le = legal.in_range.1 in
      omega arith) f

  heap_low : at_map.heap_end ≤ 2 ^ 40
  heap_low = legal.in_range.2.2.1

  base_small : (s : Store) → IsSound s → (k : ℕ) → base_in s.memory.shapes k ≤ 2 ^ 40
  base_small s sound k = by (slice_get s.memory.shapes k) refl
    where
      by : (o : Option Shape) → slice_get s.memory.shapes k ≡ o → base_of_shape o ≤ 2 ^ 40
      by None e = omega arith
      by (Some o) e = let h = each_get IsStanding s.memory.shapes k o sound.shapes e in let le = h.low in omega arith

  owned_small : (s : Store) → IsSound s → (k : ℕ) → owned_of_shape (slice_get s.memory.shapes k) ≤ 2 ^ 40
  owned_small s sound k = by (slice_get s.memory.shapes k) refl
    where
      by : (o : Option Shape) → slice_get s.memory.shapes k ≡ o → owned_of_shape o ≤ 2 ^ 40
      by None e = omega arith
      by (Some o) e = let h = each_get IsStanding s.memory.shapes k o sound.shapes e in let le = h.low in omega arith

  -- ---- intrinsics

  compares : (shapes : List Shape) (op : CmpOp) (signed : Bool) (x y : Value) →
      IsAnswered (compare (Placed at_map) shapes signed op x y)
  compares shapes Lt signed x y = (_, refl)
  compares shapes Le signed x y = (_, refl)
  compares shapes Gt signed x y = (_, refl)
  compares shapes Ge signed x y = (_, refl)
  compares shapes Eq signed x y = (_, refl)
  compares shapes Ne signed x y = (_, refl)

  work_answers : (s : Store) (o : Work) (x y : Value) → IsAnswered (work_of (Placed at_map) s o x y)
  work_answers s work.Base (Int n) y = (_, refl)
  work_answers s work.Base (Live object low high offset permissions) y = (_, refl)
  work_answers s work.Base (Fun f) y = (_, refl)
  work_answers s work.Base (Raw address upper) y = (_, refl)
  work_answers s work.Offset (Int n) y = (_, refl)
  work_answers s work.Offset (Live object low high offset permissions) y = (_, refl)
  work_answers s work.Offset (Fun f) y = (_, refl)
  work_answers s work.Offset (Raw address upper) y = (_, refl)
  work_answers s work.Length (Int n) y = (_, refl)
  work_answers s work.Length (Live object low high offset permissions) y = (_, refl)
  work_answers s work.Length (Fun f) y = (_, refl)
  work_answers s work.Length (Raw address upper) y = (_, refl)
  work_answers s work.Clear (Int n) y = (_, refl)
  work_answers s work.Clear (Live object low high offset permissions) y = (_, refl)
  work_answers s work.Clear (Fun f) y = (_, refl)
  work_answers s work.Clear (Raw address upper) y = (_, refl)
  work_answers s work.And_perms (Int n) y = (_, refl)
  work_answers s work.And_perms (Live object low high offset permissions) y = (_, refl)
  work_answers s work.And_perms (Fun f) y = (_, refl)
  work_answers s work.And_perms (Raw address upper) y = (_, refl)
  work_answers s work.Tag x y = (_, refl)
  work_answers s work.Perms x y = (_, refl)
  work_answers s work.Set_address x y = (_, refl)
  work_answers s work.Equal_exact x y = (_, refl)
  work_answers s work.Rounded x y = (_, refl)
  work_answers s work.Mask x y = (_, refl)

  u64 : (n : ℕ) → n < 2 ^ 64 → IsOf (kinds.Plain int.U64) (Int n)
  u64 n lt = (n, refl, IsKept-64 int.U64 n refl lt)

  -- what is asked of a capability has its kind
  work_typed : (s : Store) (o : Work) (x y : Value) → IsSound s → IsWorkedOn o x → kinds.number_of y < 2 ^ 64 →
      Answers (IsOf (kind_given o)) (work_of (Placed at_map) s o x y)
  work_typed s work.Base (Int n) y sound h lt = absurd h
  work_typed s work.Base (Live object low high offset permissions) y sound h lt =
      u64 _ (let small = base_small s sound object in let le = h.0 in let top = h.1 in omega arith)
  work_typed s work.Base (Fun f) y sound h lt = u64 _ (let le = legal.in_range.1 in omega arith)
  work_typed s work.Base (Raw address upper) y sound h lt = u64 _ (base_of_below _ _ _ address)
  work_typed s work.Offset (Int n) y sound h lt = absurd h
  work_typed s work.Offset (Live object low high offset permissions) y sound h lt = u64 _ (omega arith)
  work_typed s work.Offset (Fun f) y sound h lt = u64 _ (omega arith)
  work_typed s work.Offset (Raw address upper) y sound h lt = u64 _ (omega arith)
  work_typed s work.Length (Int n) y sound h lt = absurd h
  work_typed s work.Length (Live object low high offset permissions) y sound h lt = u64 _ (length_below low high)
  work_typed s work.Length (Fun f) y sound h lt = u64 _ (length_below at_map.text at_map.text_end)
  work_typed s work.Length (Raw address upper) y sound h lt =
      u64 _ (length_below (raw_base address upper) (raw_top address upper))
  work_typed s work.Tag x y sound h lt = bool_is_of _
  work_typed s work.Perms (Int n) y sound h lt = absurd h
  work_typed s work.Perms (Live object low high offset permissions) y sound h lt =
      u64 _ (let few = h.2 in omega arith)
  work_typed s work.Perms (Fun f) y sound h lt = u64 _ (omega arith)
  work_typed s work.Perms (Raw address upper) y sound h lt =
      u64 _ (let few = perms_below (flipped (upper * 2 ^ 64 + address)) in omega arith)
  work_typed s work.Clear (Int n) y sound h lt = absurd h
  work_typed s work.Clear (Live object low high offset permissions) y sound h lt = omega arith
  work_typed s work.Clear (Fun f) y sound h lt = entries f
  work_typed s work.Clear (Raw address upper) y sound h lt = h
  work_typed s work.Set_address x y sound h lt =
      set_pointer at_map entries (base_in s.memory.shapes) x (kinds.number_of y) lt h
  work_typed s work.And_perms (Int n) y sound h lt = absurd h
  work_typed s work.And_perms (Live object low high offset permissions) y sound h lt =
      (h.0, h.1, let few = h.2 in let le = and_le_l permissions (kinds.number_of y) in omega arith)
  work_typed s work.And_perms (Fun f) y sound h lt = entries f
  work_typed s work.And_perms (Raw address upper) y sound h lt = h
  work_typed s work.Equal_exact x y sound h lt = bool_is_of _
  work_typed s work.Rounded x y sound h lt = u64 _ (omega arith)
  work_typed s work.Mask x y sound h lt =
      u64 _ (let more = alignment_positive (kinds.number_of x) in omega arith)

  -- ---- whole objects

  whole_is : (s : Store) (object permissions : ℕ) → IsSound s → permissions < 4096 →
      IsPointer (whole_pointer s.memory.shapes object permissions)
  whole_is s object permissions sound lt = (omega arith, owned_small s sound object, lt)

  whole_stays : (s : Store) (object permissions : ℕ) → IsSound s → object < length s.memory.shapes
      → placed_move at_map (base_in s.memory.shapes) (whole_pointer s.memory.shapes object permissions) 0
      ≡ whole_pointer s.memory.shapes object permissions
  whole_stays s object permissions sound lt =
      ap (λ c. if c then Live object 0 w 0 permissions
      else untagged at_map (base_in s.memory.shapes) (Live object 0 w 0 permissions) ((b + 0) % 2 ^ 64))
      (same_place b w (base_small s sound object) exact)
    where
      b : ℕ
      b = base_in s.memory.shapes object

      w : ℕ
      w = owned_of_shape (slice_get s.memory.shapes object)

      none : Shape
      none = record { length = 0; owned = 0; life = Active; base = 0 }

      there : slice_get s.memory.shapes object ≡ Some (get_or s.memory.shapes object none)
      there = slice_get-get_or s.memory.shapes object none lt

      exact : keeps b (b + w) b ≡ true
      exact = ap (λ z. keeps (base_of_shape z) (base_of_shape z + owned_of_shape z) (base_of_shape z)) there
          ∙ (each_get IsStanding s.memory.shapes object (get_or s.memory.shapes object none) sound.shapes there).exact

  -- ---- memory goes on

  onward_kept : (s : Store) (new : Memory) → Keeps at_map s.memory new → IsOnward ops s (with_memory s new)
  unfolding operations
  onward_kept s new k = record {
    sound = λ h. record { shapes = subst (Each IsStanding) (sym k.0) h.shapes; contents = k.1 h.contents };
    count = let e : length new.shapes ≡ length s.memory.shapes = ap length k.0 in omega arith;
    whole = λ object permissions lt. ap (λ z. whole_pointer z object permissions) k.0;
  }

  onward_stored : (s new : Store) (r : Result Memory Fault) → Answers (Keeps at_map s.memory) r → stored s r ≡ Ok new →
      IsOnward ops s new
  onward_stored s new (Ok x) k e = subst (IsOnward ops s) (same_ok (with_memory s x) new _ refl e) (onward_kept s x k)
  onward_stored s new (Err f) k e = absurd cc

  pub onward_store : (s new : Store) (to v : Value) (n : ℕ) → IsPiece at_map (stored_piece n v) →
      ops.store s to n v ≡ Ok new → IsOnward ops s new
  unfolding operations
  onward_store s new to v n h =
      onward_stored s new (store (Placed at_map) s.memory to n v) (store_keeps at_map s.memory to v n h)

  onward_copied : (s new : Store) (r : Result Memory UnitFault) → Answers (Keeps at_map s.memory) r →
      copied s r ≡ Ok new → IsOnward ops s new
  onward_copied s new (Ok x) k e = subst (IsOnward ops s) (same_ok (with_memory s x) new _ refl e) (onward_kept s x k)
  onward_copied s new (Err f) k e = absurd cc

  onward_same_memory : (s : Store) → IsOnward ops s s
  onward_same_memory s = record { sound = λ h. h; count = omega arith; whole = λ object permissions lt. refl }

  -- the life of an object changes
  pub onward_life : (l : Life) (s : Store) (k : ℕ) → IsOnward ops s (with_memory s (with_life l s.memory k))
  unfolding operations
  onward_life l s k = by (slice_get s.memory.shapes k) refl
    where
      by : (o : Option Shape) → slice_get s.memory.shapes k ≡ o →
          IsOnward ops s (with_memory s (record s.memory { shapes = with_life_by l s.memory.shapes k o }))
      by None e = onward_same_memory s
      by (Some o) e = record {
        sound = λ h. record {
          shapes = let old = each_get IsStanding s.memory.shapes k o h.shapes e in
              each_set IsStanding s.memory.shapes k (record o { life = l }) h.shapes
              (record { low = old.low; exact = old.exact });
          contents = h.contents;
        };
        count = let long = length-set s.memory.shapes k (record o { life = l }) in omega arith;
        whole = λ object permissions lt.
            ap (λ z. Live object 0 z 0 permissions) (life_owned at_map s.memory.shapes k object l o e);
      }

  onward_zero : (s : Store) (k : ℕ) → IsOnward ops s (with_memory s (zero_object (Placed at_map) s.memory k))
  unfolding operations
  onward_zero s k = by (slice_get s.memory.shapes k) refl
    where
      contents : Each IsFilled s.memory.contents → Each IsFilled (slice_set s.memory.contents k
          (blank (Placed at_map) (owned_of_shape (slice_get s.memory.shapes k))))
      contents h = each_set IsFilled s.memory.contents k _ h (blank_filled at_map _)

      by : (o : Option Shape) → slice_get s.memory.shapes k ≡ o →
          IsOnward ops s (with_memory s (record s.memory {
            shapes = with_life_by Active s.memory.shapes k o;
            contents = slice_set s.memory.contents k
                (blank (Placed at_map) (owned_of_shape (slice_get s.memory.shapes k)));
          }))
      by None e = record {
        sound = λ h. record { shapes = h.shapes; contents = contents h.contents };
        count = omega arith;
        whole = λ object permissions lt. refl;
      }
      by (Some o) e = record {
        sound = λ h. record {
          shapes = let old = each_get IsStanding s.memory.shapes k o h.shapes e in
              each_set IsStanding s.memory.shapes k (record o { life = Active }) h.shapes
              (record { low = old.low; exact = old.exact });
          contents = contents h.contents;
        };
        count = let long = length-set s.memory.shapes k (record o { life = Active }) in omega arith;
        whole = λ object permissions lt.
            ap (λ z. Live object 0 z 0 permissions) (life_owned at_map s.memory.shapes k object Active o e);
      }

  pub onward_added : (s : Store) (o : Shape) (c : Content) (heap : ℕ) → IsStanding o → IsFilled c →
      IsOnward ops s (record {
        memory = record s.memory { shapes = s.memory.shapes ++ o ∷ []; contents = s.memory.contents ++ c ∷ [] };
        heap = heap;
      })
  unfolding operations
  onward_added s o c heap standing filled = record {
    sound = λ h. record {
      shapes = each_append IsStanding s.memory.shapes (o ∷ []) h.shapes (standing, tt);
      contents = each_append IsFilled s.memory.contents (c ∷ []) h.contents (filled, tt);
    };
    count = longer s.memory.shapes o;
    whole = λ object permissions lt. ap (λ z. Live object 0 (owned_of_shape z) 0 permissions)
        (front s.memory.shapes (o ∷ []) object lt);
  }

  allocates : (s : Store) (n : ℕ) → (r : Value × Store) × (taken (allocate (Placed at_map) s.memory s.heap n) ≡ Ok r) ×
      IsPointer r.0 × IsOnward ops s r.1
  allocates s n = by (nat_lt (at_map.heap_end - at_map.heap) n) (nat_lt at_map.heap_end (start + owned n)) refl
    where
      start : ℕ
      start = rounded_up s.heap (allocation_alignment n)

      aligned : start % alignment n ≡ 0
      aligned = length_aligned (record { length = n; align = 1; permissions = 125 }) power_one start
          (mul-mod_left ((s.heap + (allocation_alignment n - 1)) / allocation_alignment n) (allocation_alignment n))

      fits : nat_lt at_map.heap_end (start + owned n) ≡ false → start + owned n ≤ at_map.heap_end
      fits e = grind (arith, nat_tests)

      by : (b c : Bool) → nat_lt at_map.heap_end (start + owned n) ≡ c → (r : Value × Store) ×
          (taken (Ok (if b then refused s.memory s.heap else if c then refused s.memory s.heap
          else allocated (Placed at_map) s.memory n start (start + owned n))) ≡ Ok r) × IsPointer r.0 ×
          IsOnward ops s r.1
      by true c e = (_, refl, omega arith, onward_same_memory s)
      by false true e = (_, refl, omega arith, onward_same_memory s)
      by false false e =
          let room = fits e in let low = heap_low in
          let le : start + owned n ≤ 2 ^ 40 = omega arith in (
            _,
            refl,
            (omega arith, omega arith, omega arith),
            onward_added s (record { length = n; owned = owned n; life = Active; base = start })
                (blank (Placed at_map) (owned n)) (start + owned n)
                (record { low = le; exact = exact_at start n le aligned }) (blank_filled at_map (owned n)),
          )

  pub operations_placed : IsPlaced ops
  unfolding operations
  operations_placed = record {
    int = λ op k count x y. refl;
    address = λ m v. (_, refl);
    compare = λ m op signed x y. compares m.memory.shapes op signed x y;
    opposite = λ m signed b x y e. opposite_of _ b e;
    difference = λ m x y. (_, refl);
    offset = λ m v n. (_, refl);
    narrow = λ m v n exact. (_, refl);
    work = λ m o x y. work_answers m o x y;
    unset = λ k. refl;
    falls = λ k. refl;
    overlap = λ from to n. refl;
    note_member = λ m v n. refl;
    leave = λ m object. refl;
    address_null = λ m n. refl;
    address_word = λ m v n h e. subst (λ z. z < 2 ^ 64) (same_ok _ n _ refl e)
        (address_below at_map entries (base_in m.memory.shapes) v h);
    compare_null = λ m signed v n e. ap (λ z. Ok (not (z == 0))) (same_ok _ n _ refl e);
    apart = λ m x y i j e f li lj. ap Ok
        (ap (λ z. less_by z (address_of at_map (base_in m.memory.shapes) y)) (same_ok _ i _ refl e)
        ∙ ap (less_by i) (same_ok _ j _ refl f) ∙ difference_is i j li lj);
    moves = λ m v i n sound h e. ap Ok
        (moves_by_address at_map entries (base_in m.memory.shapes) (base_small m sound) v n h
        ∙ ap (λ z. placed_at_address at_map (base_in m.memory.shapes) v ((z + n) % 2 ^ 64)) (same_ok _ i _ refl e));
    moved = λ m v y n sound h lt e. ap Ok
        (ap (address_of at_map (base_in m.memory.shapes)) (sym (same_ok _ y _ refl e))
        ∙ address_is at_map entries (base_in m.memory.shapes) (base_small m sound) v n lt h);
    offset_none = λ m object permissions sound lt. ap Ok (whole_stays m object permissions sound lt);
    offset_pointer = λ m v y n h e. subst IsPointer (same_ok _ y _ refl e)
        (move_pointer at_map entries (base_in m.memory.shapes) v n h);
    narrow_pointer = λ m v y n exact h e. subst IsPointer (same_ok _ y _ refl e)
        (narrow_pointer at_map entries (base_in m.memory.shapes) v n exact h);
    work_of_kind = λ m o x y v sound h lt e. answered (IsOf (kind_given o)) (work_of (Placed at_map) m o x y) v
        (work_typed m o x y sound h lt) e;
    whole_pointer = λ m object permissions sound lt. whole_is m object permissions sound lt;
    load_pointer = λ m from v sound e. answered IsPointer (load (Placed at_map) m.memory from 16) v
        (load_gives at_map m.memory from sound.contents) e;
    store = λ m new to v k h e. onward_store m new to v (kinds.bytes_of k)
        (stored_is at_map k (kinds.bytes_of k) v h) e;
    allocate = λ m n sound. allocates m n;
    copy_unit = λ m new from to n e. onward_copied m new (copy_unit (Placed at_map) m.memory from to n)
        (copy_keeps at_map m.memory from to n) e;
    zero = λ m object. onward_zero m object;
    end = λ m object. onward_life Returned m object;
  }
