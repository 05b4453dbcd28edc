-- Frames under a legal map hold the objects of their functions.
use Rattle.std.proofs.Common.{◌≡◌, ℕ, zero, suc, ◌+◌, ◌-◌, ◌*◌, ◌/◌, ◌%◌, ◌^◌, ◌≤◌, Bool, true, false, ◌||◌}
use Rattle.std.proofs.Common.{nat_lt}
use Rattle.std.proofs.Common.{List, [], ◌∷◌, ◌++◌, length, Option, Some, None, refl, sym, ap, subst, ◌∙◌, inl, inr}
use Rattle.std.proofs.Common.{arith}
use Rattle.std.specs.Prelude.{slice_get, if◌then◌else◌}
use Rattle.std.proofs.lemmas.Bool.{cases_lt}
use Rattle.std.proofs.lemmas.Bool.Decides.{nat_tests}
use Rattle.std.proofs.lemmas.Nat.{pow-add, div-add-mod'}
use Rattle.std.proofs.Math.Nat.{mul-mod_left}
use Rattle.std.proofs.Math.Pow.{pow-lt}
use Rattle.cap_concentrate.specs.Rounding.{alignment, owned}
use Rattle.cap_concentrate.proofs.Owned.{alignment_power}
use Rattle.obj_mem.specs.declared.map.Map.{Map}
use Rattle.obj_mem.specs.declared.map.Frame.{Frame}
use Rattle.obj_mem.specs.Objects.{Life, Active, Inactive, Shape, Placed, blank, with_life_by}
use Rattle.obj_mem.specs.Legal.{FunctionNeed, Needs, alignment_of, IsFrame, AreFrames, IsLegal}
use Rattle.cheri_c_sem.specs.Calls.{add_locals}
use Rattle.cheri_c_sem.specs.Modes.{Store, operations, placed_plan, below, frame_within, local_offset, slot_offset}
use Rattle.cheri_c_sem.specs.Modes.{with_local, with_object, count_of}
use Rattle.cheri_c_sem.specs.Operations.{Operations}
use Rattle.lower_runs.specs.Sound.{IsStanding}
use Rattle.lower_runs.specs.States.{IsOnward}
use Rattle.lower_runs.specs.Frames.{AreNeeded, HasFrames, FramesAreLegal}
use Rattle.lower_runs.proofs.Agreement.{onward_same, onward_then}
use Rattle.lower_runs.proofs.Placed.{at_map, same_some, exact_at, blank_filled, onward_added, onward_life}

-- ---- multiples

multiple_sum : (a b m : ℕ) → a % m ≡ 0 → b % m ≡ 0 → (a + b) % m ≡ 0
multiple_sum a b m h k =
    let e : a + b ≡ (a / m + b / m) * m = omega (arith, div-add-mod' a m, div-add-mod' b m) in
    ap (λ v. v % m) e ∙ mul-mod_left (a / m + b / m) m

multiple_of : (a align n : ℕ) → align % n ≡ 0 → (a * align) % n ≡ 0
multiple_of a align n h =
    let e : align ≡ align / n * n = omega (arith, div-add-mod' align n) in
    let f : a * align ≡ (a * (align / n)) * n = ap (λ v. a * v) e ∙ omega arith in
    ap (λ v. v % n) f ∙ mul-mod_left (a * (align / n)) n

power_divides : (j k : ℕ) → 2 ^ j ≤ 2 ^ k → 2 ^ k % 2 ^ j ≡ 0
power_divides j k h =
    let le : j ≤ k = elim (cases_lt k j) as (λ _. j ≤ k) [
      | inl less ↦ absurd (omega (arith, pow-lt less, h))
      | inr fine ↦ fine
    ] in
    let is : k ≡ (k - j) + j = omega arith in
    ap (λ v. 2 ^ v % 2 ^ j) is ∙ ap (λ v. v % 2 ^ j) (pow-add 2 (k - j) j) ∙ mul-mod_left (2 ^ (k - j)) (2 ^ j)

multiple_then : (a m n : ℕ) → a % m ≡ 0 → m % n ≡ 0 → a % n ≡ 0
multiple_then a m n h k =
    let e : a ≡ a / m * m = omega (arith, div-add-mod' a m) in
    subst (λ v. v % n ≡ 0) (sym e) (multiple_of (a / m) m n k)

-- ---- frames

frame_of : (ns : List FunctionNeed) (fs : List Frame) → AreFrames ns fs → (f : ℕ) (x : Frame) →
    slice_get fs f ≡ Some x → (n : FunctionNeed) × (slice_get ns f ≡ Some n) × IsFrame n x
frame_of [] [] h f x e = absurd cc
frame_of [] (y ∷ fs) h f x e = absurd h
frame_of (n ∷ ns) [] h f x e = absurd h
frame_of (n ∷ ns) (y ∷ fs) h zero x e = (n, refl, subst (IsFrame n) (same_some y x e) h.0)
frame_of (n ∷ ns) (y ∷ fs) h (suc f) x e = frame_of ns fs h.1 f x e

last_is : (xs : List Shape) (x y : Shape) (l : Life) → y ≡ record x { life = l } →
    length (with_life_by l (xs ++ x ∷ []) (length xs) (slice_get (xs ++ x ∷ []) (length xs))) ≡ suc (length xs)
last_is [] x y l e = refl
last_is (z ∷ xs) x y l e = by (slice_get (xs ++ x ∷ []) (length xs)) (last_is xs x y l e)
  where
    by : (o : Option Shape) → length (with_life_by l (xs ++ x ∷ []) (length xs) o) ≡ suc (length xs) →
        length (with_life_by l (z ∷ xs ++ x ∷ []) (suc (length xs)) o) ≡ suc (suc (length xs))
    by None h = ap suc h
    by (Some s) h = ap suc h

module _ (needs : Needs) (map : Map) (objects : ℕ → List ℕ) (legal : IsLegal needs map)
    (needed : AreNeeded needs objects) where
  abbrev ops : Operations Store
  ops = operations (placed_plan map)

  record Room (f above frame : ℕ) : Type 0 where
    it : Frame
    is : slice_get map.frames f ≡ Some it
    fits : it.size ≤ above
    here : frame ≡ below above it

  room : (f above frame : ℕ) → ops.enter f above ≡ Some frame → Room f above frame
  unfolding operations
  room f above frame e = go (slice_get map.frames f) refl e
    where
      not_below : (a b : ℕ) → nat_lt a b ≡ false → b ≤ a
      not_below a b q = grind (arith, nat_tests)

      tested : (x : Frame) → slice_get map.frames f ≡ Some x → (c d : Bool) → nat_lt above x.size ≡ c →
          (if c || d then None else Some (below above x)) ≡ Some frame → Room f above frame
      tested x is true d q h = absurd cc
      tested x is false true q h = absurd cc
      tested x is false false q h =
          record {
            it = x;
            is = is;
            fits = not_below above x.size q;
            here = let w : below above x ≡ frame = cc in
                sym w;
          }

      go : (o : Option Frame) → slice_get map.frames f ≡ o → frame_within map.stack.0 above o ≡ Some frame →
          Room f above frame
      go None is h = absurd cc
      go (Some x) is h = tested x is (nat_lt above x.size) (nat_lt (below above x) map.stack.0) refl h

  within : (f above frame : ℕ) (r : Room f above frame) → frame + r.it.size ≤ above
  within f above frame r =
      let is = r.here in let fits = r.fits in omega (arith, div-add-mod' (above - r.it.size) r.it.align)

  -- ---- an object in a frame

  abbrev place : (f frame n : ℕ) → ℕ
  place f frame n = frame + local_offset (slice_get map.frames f) n

  stands : (f above frame n long : ℕ) → Room f above frame → above ≤ 2 ^ 40 → slice_get (objects f) n ≡ Some long →
      IsStanding (record { length = long; owned = owned long; life = Active; base = place f frame n })
  stands f above frame n long r low e =
      let fits = frame_of needs.functions map.frames legal.frames f r.it r.is in
      let o = needed.needed f n long fits.0 fits.1 e in
      let slot = fits.2.has_slot n o.0 o.1 in
      let s = slot.2 in
      let at : local_offset (slice_get map.frames f) n ≡ slot.0.at =
      ap (λ z. local_offset z n) r.is ∙ ap slot_offset slot.1 in
      let own : slot.0.length ≡ owned long = s.length ∙ ap owned o.2 in
      let inside = s.within in let size = within f above frame r in
      let le : place f frame n + owned long ≤ 2 ^ 40 = omega arith in
      let two = alignment_power o.0.length in
      let power = fits.2.power in
      let less = s.alignment in
      let small : alignment o.0.length ≤ r.it.align = omega arith in
      let divides : r.it.align % alignment o.0.length ≡ 0 =
      subst (λ v. r.it.align % v ≡ 0) (sym two.2)
      (subst (λ v. v % 2 ^ two.0 ≡ 0) (sym power.1)
      (power_divides two.0 power.0 (subst (λ v. v ≤ 2 ^ power.0) two.2
      (subst (λ v. alignment o.0.length ≤ v) power.1 small)))) in
      let framed : frame % alignment o.0.length ≡ 0 =
      subst (λ v. v % alignment o.0.length ≡ 0) (sym r.here)
      (multiple_of ((above - r.it.size) / r.it.align) r.it.align (alignment o.0.length) divides) in
      let offset : slot.0.at % alignment o.0.length ≡ 0 =
      multiple_then slot.0.at (alignment_of o.0) (alignment o.0.length) s.aligned o.3 in
      let aligned : place f frame n % alignment long ≡ 0 =
      subst (λ v. place f frame n % alignment v ≡ 0) o.2
      (subst (λ v. (frame + v) % alignment o.0.length ≡ 0) (sym at)
      (multiple_sum frame slot.0.at (alignment o.0.length) framed offset)) in
      record { low = le; exact = exact_at (place f frame n) long le aligned }

  added : (s : Store) (long base : ℕ) →
      IsStanding (record { length = long; owned = owned long; life = Active; base = base }) →
      IsOnward ops s (with_local (placed_plan map) s long base)
  added s long base h =
      onward_then ops s (with_object (placed_plan map) s long base) (with_local (placed_plan map) s long base)
      (onward_added needs map legal s (record { length = long; owned = owned long; life = Active; base = base })
      (blank (Placed (at_map needs map legal)) (owned long)) s.heap h
      (blank_filled (at_map needs map legal) (owned long)))
      (onward_life needs map legal Inactive (with_object (placed_plan map) s long base) (count_of s))

  -- ---- all objects of a function

  all_onward : (f above frame : ℕ) → Room f above frame → above ≤ 2 ^ 40 → (n : ℕ) (ls : List ℕ) →
      ((i l : ℕ) → slice_get ls i ≡ Some l → slice_get (objects f) (n + i) ≡ Some l) → (m : Store) →
      IsOnward ops m (add_locals ops m frame f n ls)
  unfolding operations
  all_onward f above frame r low n [] part m = onward_same ops m
  all_onward f above frame r low n (l ∷ ls) part m =
      let none : n + 0 ≡ n = omega arith in
      let new : Store = with_local (placed_plan map) m l (place f frame n) in
      onward_then ops m new (add_locals ops new frame f (suc n) ls)
      (added m l (place f frame n)
      (stands f above frame n l r low (subst (λ z. slice_get (objects f) z ≡ Some l) none (part 0 l refl))))
      (all_onward f above frame r low (suc n) ls
      (λ i k e. subst (λ z. slice_get (objects f) z ≡ Some k) (shift n i) (part (suc i) k e)) new)
    where
      shift : (n i : ℕ) → n + suc i ≡ suc n + i
      shift n i = omega arith

  all_counted : (f frame n : ℕ) (ls : List ℕ) (m : Store) →
      ops.count (add_locals ops m frame f n ls) ≡ ops.count m + length ls
  unfolding operations
  all_counted f frame n [] m = omega arith
  all_counted f frame n (l ∷ ls) m =
      let new : Store = with_local (placed_plan map) m l (place f frame n) in
      let one : ops.count new ≡ suc (ops.count m) = last_is m.memory.shapes _ _ Inactive refl in
      let rest = all_counted f frame (suc n) ls new in
      omega arith

  frames : HasFrames ops objects
  unfolding operations
  frames = record {
    below = λ f above frame e. let r = room f above frame e in let le = within f above frame r in omega arith;
    onward = λ m f above frame top e. all_onward f above frame (room f above frame e)
        (let low = legal.in_range.2.2.2.1 in omega arith) 0 (objects f) (λ i l q. subst
        (λ z. slice_get (objects f) z ≡ Some l) (from i) q) m;
    count = λ m f frame. all_counted f frame 0 (objects f) m;
  }
    where
      from : (i : ℕ) → i ≡ 0 + i
      from i = omega arith

pub frames_legal : FramesAreLegal
frames_legal needs m objects legal needed = frames needs m objects legal needed
