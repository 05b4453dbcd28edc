-- A unit of a copy is a load and then a store.
use Rattle.std.proofs.Common.{◌≡◌, ℕ, zero, suc, ◌+◌, ◌*◌, ◌/◌, ◌%◌, ◌<◌, ◌==◌, ◌&&◌, Bool, true, false, cond, List}
use Rattle.std.proofs.Common.{◌∷◌, ◌++◌, take, drop, refl, sym, ap, ◌∙◌, subst, arith, Option, Some, None, inl, inr}
use Rattle.std.specs.Prelude.{Result, Ok}
use Rattle.std.proofs.lemmas.Bool.{and_right, cond-false}
use Rattle.cap_ops.specs.declared.access.Access.TheVariants as A
use Rattle.cap_ops.specs.Access.{IsAccess}
use Rattle.rv_instr.specs.declared.ops.LoadOp.TheVariants.{Lb}
use Rattle.cap_machine.specs.declared.machine.Machine.{Machine}
use Rattle.cap_machine.specs.Rows.{load_checked}
use Rattle.obj_mem.specs.declared.ending.Fault.{Fault}
use Rattle.obj_mem.specs.Values.{Value, Int, Live, Fun, Raw, Addresses, is_tagged}
use Rattle.obj_mem.specs.Objects.{Cell, Byte, Unwritten, PartOf, Shape, Content, Memory, Mode, Placed, value_at}
use Rattle.obj_mem.specs.Objects.{byte_at, bytes_at}
use Rattle.obj_mem.specs.Access.{Spot, onward, Piece, Tagged, Plain, piece_of, number_of, read_as, loaded, load}
use Rattle.obj_mem.specs.Access.{bytes_of, stored_piece, store, carried, as_load, then_put, copy_unit}
use Rattle.place_inject.specs.Values.{IsKnown}
use Rattle.place_inject.specs.Objects.{IsByte, ObjectsFit}
use Rattle.place_inject.specs.Copies.{then_stored, IsUnit, CopiesFit}
use Rattle.place_inject.proofs.Numbered.{Numbered, numbered, bytes_take, bytes_drop}
use Rattle.place_inject.proofs.Sound.{seen_byte}
use Rattle.place_inject.proofs.Reached.{Reached, spot_of, through}

-- ---- bytes and their number

module _ (d : Mode) (shapes : List Shape) (c : Content) where
  one_back : (x : Cell) (n r : ℕ) (cs : List Cell) → IsByte x → r ≡ number_of cs → bytes_of n r ≡ cs
      → bytes_of (suc n) (number_of (x ∷ cs)) ≡ x ∷ cs
  one_back (Byte b) n r cs h e q =
      let low : (b + 256 * number_of cs) % 256 ≡ b = omega arith in
      let high : (b + 256 * number_of cs) / 256 ≡ r = omega arith in
      ap (λ y. Byte y ∷ bytes_of n ((b + 256 * number_of cs) / 256)) low ∙ ap (λ y. Byte b ∷ bytes_of n y) high
      ∙ ap (λ y. Byte b ∷ y) q
  one_back Unwritten n r cs h e q = absurd h
  one_back (PartOf v k) n r cs h e q = absurd h

  back : (n i : ℕ) → ((k : ℕ) → k < n → IsByte (byte_at d shapes c (i + k)))
      → bytes_of n (number_of (bytes_at d shapes c i n)) ≡ bytes_at d shapes c i n
  back zero i h = refl
  back (suc n) i h =
      let first : IsByte (byte_at d shapes c i) = let e : i + 0 ≡ i =
      omega arith in subst (λ j. IsByte (byte_at d shapes c j)) e (h 0 (omega arith)) in
      let rest = back n (suc i) (λ k l. let e : i + suc k ≡ suc i + k = omega arith in subst
      (λ j. IsByte (byte_at d shapes c j)) e (h (suc k) (omega arith))) in
      one_back (byte_at d shapes c i) n (number_of (bytes_at d shapes c (suc i) n))
      (bytes_at d shapes c (suc i) n) first refl rest

  joined : (n k m i : ℕ) → m ≡ n + k → bytes_at d shapes c i n ++ bytes_at d shapes c
      (i + n) k ≡ bytes_at d shapes c i m
  joined zero k m i e = ap (λ j. bytes_at d shapes c j k) (let q : i + 0 ≡ i = omega arith in q)
      ∙ ap (bytes_at d shapes c i) (let q : k ≡ m = omega arith in q)
  joined (suc n) k zero i e = absurd (omega arith)
  joined (suc n) k (suc m) i e =
      ap (λ j. byte_at d shapes c i ∷ (bytes_at d shapes c (suc i) n ++ bytes_at d shapes c j k))
      (let q : i + suc n ≡ suc i + n = omega arith in q)
      ∙ ap (λ cs. byte_at d shapes c i ∷ cs) (joined n k m (suc i) (omega arith))

module _ (functions : ℕ) (a : Addresses) (objects : Memory) (m : Machine) (f : ObjectsFit functions a objects m.mem)
    (to : Value) where
  -- the copy of what was fetched, and its load and store
  abbrev Alike : ℕ → Result Piece Fault → Type 0
  Alike n r = then_put (Placed a) objects to n (as_load (onward r carried)) ≡ then_stored a objects to n
      (onward r (loaded n))

  module _ (n : ℕ) (p : Spot) (s : Shape) (c : Content) (r : Reached objects n p s c) where
    cells : List Cell
    cells = bytes_at (Placed a) objects.shapes c p.at n

    each : (k : ℕ) → k < n → IsByte (byte_at (Placed a) objects.shapes c (p.at + k))
    each k l = let room = r.room in seen_byte a objects.shapes functions s c (p.at + k)
        (f.sound p.object s c r.there r.has) (omega arith)

    here : Numbered (Placed a) objects.shapes c p.at n (bytes_at (Placed a) objects.shapes c p.at n)
    here = numbered (Placed a) objects.shapes c n p.at each

    -- bytes are loaded and stored as they were
    plain_alike : stored_piece n (read_as n (bytes_at (Placed a) objects.shapes c p.at n)) ≡ Plain
        (bytes_at (Placed a) objects.shapes c p.at n)
        → Alike n (Ok (Plain (bytes_at (Placed a) objects.shapes c p.at n)))
    unfolding store
    plain_alike e =
        let h = here in
        rw (h.written, h.whole, e) refl

    integer_back : (n == 16) ≡ false → stored_piece n (read_as n
        (bytes_at (Placed a) objects.shapes c p.at n)) ≡ Plain (bytes_at (Placed a) objects.shapes c p.at n)
    integer_back e =
        ap (stored_piece n) (cond-false (n == 16) (Raw
        (number_of (take 8 (bytes_at (Placed a) objects.shapes c p.at n)))
        (number_of (drop 8 (bytes_at (Placed a) objects.shapes c p.at n))))
        (Int (number_of (bytes_at (Placed a) objects.shapes c p.at n))) e)
        ∙ ap Plain (back (Placed a) objects.shapes c n p.at each)

    integer_alike : (n == 16) ≡ false → (w : Option Value) → Alike n (Ok (piece_of (Placed a) objects c p n w))
    integer_alike e None = plain_alike (integer_back e)
    integer_alike e (Some v) =
        subst (λ u. Alike n (Ok u)) (sym
        (cond-false (p.carries && (n == 16)) (Tagged v) (Plain (bytes_at (Placed a) objects.shapes c p.at n))
        (and_right p.carries (n == 16) e))) (plain_alike (integer_back e))

  module _ (p : Spot) (s : Shape) (c : Content) (r : Reached objects 16 p s c) where
    capability_back : stored_piece 16 (read_as 16 (bytes_at (Placed a) objects.shapes c p.at 16)) ≡ Plain
        (bytes_at (Placed a) objects.shapes c p.at 16)
    capability_back =
        let d = Placed a in
        let low = bytes_take d objects.shapes c 8 16 p.at (omega arith) in
        let high = bytes_drop d objects.shapes c 8 16 8 p.at refl in
        let at_low = back d objects.shapes c 8 p.at (λ k l. each 16 p s c r k (omega arith)) in
        let at_high = back d objects.shapes c 8 (p.at + 8) (λ k l. let e : p.at + (8 + k) ≡ p.at + 8 + k =
        omega arith in subst (λ j. IsByte (byte_at d objects.shapes c j)) e
        (each 16 p s c r (8 + k) (omega arith))) in
        ap (λ cs. Plain (bytes_of 8 (number_of cs) ++ bytes_of 8
        (number_of (drop 8 (bytes_at d objects.shapes c p.at 16))))) low
        ∙ ap (λ cs. Plain (bytes_of 8 (number_of (bytes_at d objects.shapes c p.at 8)) ++ bytes_of 8
        (number_of cs))) high
        ∙ ap (λ cs. Plain (cs ++ bytes_of 8 (number_of (bytes_at d objects.shapes c (p.at + 8) 8)))) at_low
        ∙ ap (λ cs. Plain (bytes_at d objects.shapes c p.at 8 ++ cs)) at_high
        ∙ ap Plain (joined d objects.shapes c 8 8 16 p.at refl)

    tagged_alike : (v : Value) → is_tagged v ≡ true → Alike 16 (Ok (Tagged v))
    unfolding store
    tagged_alike (Live o low high at perms) t = refl
    tagged_alike (Fun g) t = refl
    tagged_alike (Raw y z) t = absurd cc
    tagged_alike (Int y) t = absurd cc

    by_carries : (v : Value) → is_tagged v ≡ true → (b : Bool)
        → Alike 16 (Ok (cond (b && true) (Tagged v) (Plain (bytes_at (Placed a) objects.shapes c p.at 16))))
    by_carries v t true = tagged_alike v t
    by_carries v t false = plain_alike 16 p s c r capability_back

    capability_alike : (w : Option Value) → value_at c (p.at / 16) ≡ w
        → Alike 16 (Ok (piece_of (Placed a) objects c p 16 w))
    capability_alike None e = plain_alike 16 p s c r capability_back
    capability_alike (Some v) e = by_carries v ((f.sound p.object s c r.there r.has).tagged (p.at / 16) v e) p.carries

  -- ---- all sizes

  small_unit : (n : ℕ) → (n == 16) ≡ false → IsAccess (A.Load n) → (from : Value)
      → IsKnown objects.shapes functions from
      → copy_unit (Placed a) objects from to n ≡ then_stored a objects to n (load (Placed a) objects from n)
  unfolding copy_unit load
  small_unit n e is from known =
      rw e (through functions a objects m f (λ r step. Alike n r) (λ c. refl) (λ s. refl) n (A.Load n) is refl
      (λ q c. Ok (piece_of (Placed a) objects c q n (value_at c (q.at / 16)))) (load_checked m Lb 0)
      (λ c. refl) from known
      (λ o low high at permissions held same s c r. integer_alike n (spot_of o low high at permissions) s c r e
      (value_at c (at / 16))))

  whole_unit : (from : Value) → IsKnown objects.shapes functions from
      → copy_unit (Placed a) objects from to 16 ≡ then_stored a objects to 16 (load (Placed a) objects from 16)
  unfolding copy_unit load
  whole_unit from known =
      through functions a objects m f (λ r step. Alike 16 r) (λ c. refl) (λ s. refl) 16 A.LoadCap tt refl
      (λ q c. Ok (piece_of (Placed a) objects c q 16 (value_at c (q.at / 16)))) (load_checked m Lb 0)
      (λ c. refl) from known
      (λ o low high at permissions held same s c r. capability_alike (spot_of o low high at permissions) s c r
      (value_at c (at / 16)) refl)

  copies : (n : ℕ) → IsUnit n → (from : Value) → IsKnown objects.shapes functions from
      → copy_unit (Placed a) objects from to n ≡ then_stored a objects to n (load (Placed a) objects from n)
  copies n (inl e) from known = rw e (small_unit 1 refl (inl refl) from known)
  copies n (inr (inl e)) from known = rw e (small_unit 2 refl (inr (inl refl)) from known)
  copies n (inr (inr (inl e))) from known = rw e (small_unit 4 refl (inr (inr (inl refl))) from known)
  copies n (inr (inr (inr (inl e)))) from known = rw e (small_unit 8 refl (inr (inr (inr refl))) from known)
  copies n (inr (inr (inr (inr e)))) from known = rw e (whole_unit from known)

pub copies_fit_law : CopiesFit
copies_fit_law functions a objects m f n is from to known = copies functions a objects m f to n is from known
