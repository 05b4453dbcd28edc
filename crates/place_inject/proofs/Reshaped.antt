-- An object gets another life: what stands in objects stays what it is.
use Rattle.std.proofs.Common.{◌≡◌, ℕ, zero, suc, ◌+◌, ◌*◌, ◌/◌, ◌%◌, ◌^◌, ◌<◌, true, false, List, length, replicate}
use Rattle.std.proofs.Common.{refl, sym, ap, ◌∙◌, subst, arith, Option, Some, None, inl, inr}
use Rattle.std.specs.Prelude.{slice_get, slice_set}
use Rattle.std.proofs.lemmas.Bool.{cases_eq}
use Rattle.std.proofs.lemmas.Option.{same_Some, slice_get_within}
use Rattle.std.proofs.lemmas.List.{length-replicate}
use Rattle.cap_ops.specs.declared.capability.TheConstants.{UNSEALED}
use Rattle.cap_ops.specs.Bounded.{bounded}
use Rattle.cap_ops.specs.declared.capability.Cap.{Cap}
use Rattle.cap_concentrate.specs.Packing.{bits_of, flipped}
use Rattle.tag_mem.specs.Areas.{Area, IsMemory, byte_at, tag_at}
use Rattle.obj_mem.specs.Values.{Value, Int, Live, Fun, Raw, Addresses, capability_of, bits, memory_bits}
use Rattle.obj_mem.specs.Objects as object
use Rattle.obj_mem.specs.Objects.{Life, Active, Inactive, Returned, Shape, Content, Memory, Cell, Byte, Placed}
use Rattle.obj_mem.specs.Objects.{value_at, held, cell_or, seen_through, byte_of, base_in, base_of_shape, blank}
use Rattle.obj_mem.specs.Objects.{with_life_by, zero_object, rest, end}
use Rattle.obj_mem.specs.Agreement.{IsNotReturned}
use Rattle.obj_mem.specs.Legal.{Apart}
use Rattle.obj_mem.specs.Pointers.{keeps}
use Rattle.placement.proofs.Shapes.{IsFrom, AreFrom, spread_same, get_set, set_is, set_other}
use Rattle.place_inject.specs.Values.{IsKnown}
use Rattle.place_inject.specs.Objects.{IsSound, Stands, ObjectsFit, number_in}
use Rattle.place_inject.specs.Changes.{Zeroed, granules_of, ObjectsComeAndGo, ComeAndGoWhereObjectsFit}
use Rattle.place_inject.proofs.Puts.{get_here, get_there, set_length, get_replicate}
use Rattle.place_inject.proofs.Kept.{tag_of, kept_apart}
use Rattle.place_inject.proofs.Changed.{active_stays}

-- ---- the same places

pub record Same (s t : List Shape) : Type 0 where
  pub forth : (i : ℕ) (g : Shape) → slice_get s i ≡ Some g → (h : Shape) × (slice_get t i ≡ Some h) × IsFrom g h

module _ (s t : List Shape) (same : Same s t) where
  pub known_later : (functions : ℕ) (v : Value) → IsKnown s functions v → IsKnown t functions v
  known_later functions (Int n) k = k
  known_later functions (Fun f) k = k
  known_later functions (Raw y z) k = k
  known_later functions (Live o low high at perms) k =
      let h = same.forth o k.shape k.there in
      let base = h.2.base in
      let owned = h.2.owned in
      let inside = k.inside in
      record {
        shape = h.0;
        there = h.1;
        ordered = k.ordered;
        inside = omega arith;
        kept = subst (λ b. keeps (b + low) (b + high) ((b + at) % 2 ^ 64) ≡ true) (sym base) k.kept;
        word = k.word;
        twelve_bits = k.twelve_bits;
        no_execute = k.no_execute;
      }

  -- and is the same capability
  pub capability_later : (functions : ℕ) (a : Addresses) (v : Value) → IsKnown s functions v
      → capability_of a (base_in t) v ≡ capability_of a (base_in s) v
  unfolding capability_of
  capability_later functions a (Int n) k = refl
  capability_later functions a (Fun f) k = refl
  capability_later functions a (Raw y z) k = refl
  capability_later functions a (Live o low high at perms) k =
      let h = same.forth o k.shape k.there in
      let e : base_in t o ≡ base_in s o = ap base_of_shape h.1 ∙ h.2.base ∙ sym (ap base_of_shape k.there) in
      ap (λ b. bounded (b + low) (b + high) perms UNSEALED ((b + at) % 2 ^ 64)) e

  bits_later : (functions : ℕ) (a : Addresses) (v : Value) → IsKnown s functions v
      → memory_bits a (base_in t) v ≡ memory_bits a (base_in s) v
  unfolding bits
  bits_later functions a v k = ap (λ (c : Cap). flipped (bits_of c.fields)) (capability_later functions a v k)

  pub sound_later : (functions : ℕ) (g h : Shape) (c : Content) → h.owned ≡ g.owned → IsSound s functions g c
      → IsSound t functions h c
  sound_later functions g h c e q =
      let cells = q.cells in
      let granules = q.granules in
      record {
        cells = cells ∙ sym e;
        granules = granules ∙ ap (λ n. (n + 15) / 16) (sym e);
        bytes = λ i l. q.bytes i (omega arith);
        tagged = q.tagged;
        known = λ j v x. known_later functions v (q.known j v x);
      }

  byte_later : (functions : ℕ) (a : Addresses) (g : Shape) (c : Content) (i : ℕ) → IsSound s functions g c
      → object.byte_at (Placed a) t c i ≡ object.byte_at (Placed a) s c i
  byte_later functions a g c i q = go (value_at c (i / 16)) refl where
    go : (w : Option Value) → value_at c (i / 16) ≡ w → seen_through (Placed a) t w (i % 16) (cell_or
        (slice_get c.cells i)) ≡ seen_through (Placed a) s w (i % 16) (cell_or (slice_get c.cells i))
    go None e = refl
    go (Some v) e = ap (λ n. Byte (byte_of n (i % 16))) (bits_later functions a v (q.known (i / 16) v e))

  pub stands_later : (functions : ℕ) (a : Addresses) (g : Shape) (c : Content) (memory : List Area)
      → IsSound s functions g c → Stands a s g c memory → Stands a t g c memory
  stands_later functions a g c memory q st = record {
    bytes = λ i l. st.bytes i l ∙ ap number_in (sym (byte_later functions a g c i q));
    tags = st.tags;
  }

no_value : Option Value
no_value = None

-- ---- one object gets another life

module _ (functions : ℕ) (a : Addresses) (m : Memory) (old : List Area) (f : ObjectsFit functions a m old) where
  module _ (k : ℕ) (g : Shape) (is : slice_get m.shapes k ≡ Some g) (l : Life)
      (stayed : IsNotReturned l → IsNotReturned g.life) where
    h : Shape
    h = record g { life = l }

    t : List Shape
    t = slice_set m.shapes k (record g { life = l })

    here_from : IsFrom g (record g { life = l })
    here_from = record { base = refl; owned = refl; length = refl; stayed = stayed }

    itself : (u : Shape) → IsFrom u u
    itself u = record { base = refl; owned = refl; length = refl; stayed = λ x. x }

    pub same : Same m.shapes (slice_set m.shapes k (record g { life = l }))
    same = record {
      forth = λ i u e. elim (cases_eq i k) as (λ _. (v : Shape)
          × (slice_get (slice_set m.shapes k (record g { life = l })) i ≡ Some v) × IsFrom u v) [
            | inl q ↦
                let r : g ≡ u = same_Some g u (sym is ∙ ap (slice_get m.shapes) (sym q) ∙ e) in (
                  record g { life = l },
                  ap (slice_get (slice_set m.shapes k (record g { life = l }))) q
                      ∙ set_is m.shapes k g (record g { life = l }) is,
                  subst
                      (λ z. IsFrom z (record g { life = l })) r here_from,
                )
            | inr d ↦ (u, set_other m.shapes k i (record g { life = l }) d ∙ e, itself u)
          ];
    }

    back : AreFrom m.shapes (slice_set m.shapes k (record g { life = l }))
    back i v e = elim (get_set m.shapes k g (record g { life = l }) is i v e) as (λ _. (u : Shape)
        × (slice_get m.shapes i ≡ Some u) × IsFrom u v) [
          | inl q ↦ (g, ap (slice_get m.shapes) q.0 ∙ is, subst (IsFrom g) (sym q.1) here_from)
          | inr q ↦ (v, q.1, itself v)
        ]

    pub altered : (contents : List Content) (new : List Area) → IsMemory new → length contents ≡ length m.contents
        → ((j : ℕ) → (j ≡ k → ⊥) → slice_get contents j ≡ slice_get m.contents j)
        → ((c : Content) → slice_get contents k ≡ Some c → IsSound (slice_set m.shapes k
        (record g { life = l })) functions (record g { life = l }) c)
        → ((c : Content) → slice_get contents k ≡ Some c → l ≡ Active
        → Stands a (slice_set m.shapes k (record g { life = l })) (record g { life = l }) c new)
        → ((j : ℕ) (u : Shape) (c : Content) → (j ≡ k → ⊥) → slice_get m.shapes j ≡ Some u → u.life ≡ Active
        → Stands a m.shapes u c old → Stands a m.shapes u c new)
        → ObjectsFit functions a
        (record m { shapes = slice_set m.shapes k (record g { life = l }); contents = contents }) new
    altered contents new areas long others sound stands kept = record {
      areas = areas;
      spread = spread_same m.shapes (slice_set m.shapes k (record g { life = l })) functions a back f.spread;
      aligned = λ i v e. let b = back i v e in let was = f.aligned i b.0 b.1 in ap (λ n. n % 16) b.2.base ∙ was;
      one_each = long ∙ f.one_each ∙ sym (set_length m.shapes k (record g { life = l }));
      sound = λ i v c e x. elim (get_set m.shapes k g (record g { life = l }) is i v e) as (λ _. IsSound
          (slice_set m.shapes k (record g { life = l })) functions v c) [
            | inl q ↦ subst (λ z. IsSound (slice_set m.shapes k (record g { life = l })) functions z c) (sym q.1)
                (sound c (ap (slice_get contents) (sym q.0) ∙ x))
            | inr q ↦ sound_later m.shapes (slice_set m.shapes k (record g { life = l })) same functions v v c refl
                (f.sound i v c q.1 (sym (others i q.0) ∙ x))
          ];
      stands = λ i v c e x y. elim (get_set m.shapes k g (record g { life = l }) is i v e) as (λ _. Stands a
          (slice_set m.shapes k (record g { life = l })) v c new) [
            | inl q ↦ subst (λ z. Stands a (slice_set m.shapes k (record g { life = l })) z c new) (sym q.1)
                (stands c (ap (slice_get contents) (sym q.0) ∙ x) (sym (ap (λ (z : Shape). z.life) q.1) ∙ y))
            | inr q ↦
                let has = sym (others i q.0) ∙ x in
                let was = f.stands i v c q.1 has y in
                stands_later m.shapes (slice_set m.shapes k (record g { life = l })) same functions a v c new
                (f.sound i v c q.1 has) (kept i v c q.0 q.1 y was)
          ];
    }

  -- the machine does nothing
  still : (k : ℕ) (l : Life) → (l ≡ Active → ⊥) → (o : Option Shape) → slice_get m.shapes k ≡ o
      → ((g : Shape) → o ≡ Some g → IsNotReturned l → IsNotReturned g.life)
      → ObjectsFit functions a (record m { shapes = with_life_by l m.shapes k o }) old
  still k l dead None is stayed = f
  still k l dead (Some g) is stayed =
      altered k g is l (stayed g refl) m.contents old f.areas refl (λ j d. refl)
      (λ c e. sound_later m.shapes (slice_set m.shapes k (record g { life = l }))
      (same k g is l (stayed g refl)) functions g (record g { life = l }) c refl (f.sound k g c is e))
      (λ c e q. absurd (dead q)) (λ j u c d e q s. s)

  -- ---- an object of zeros

  none_held : (n i : ℕ) → held (slice_get (replicate n no_value) i) ≡ None
  unfolding no_value
  none_held zero i = refl
  none_held (suc n) zero = refl
  none_held (suc n) (suc i) = none_held n i

  pub blank_sound : (shapes : List Shape) (s : Shape) → IsSound shapes functions s (blank (Placed a) s.owned)
  unfolding no_value
  blank_sound shapes s = record {
    cells = length-replicate s.owned (Byte 0);
    granules = length-replicate ((s.owned + 15) / 16) no_value;
    bytes = λ i l. rw (get_replicate s.owned i (Byte 0) l) (omega arith);
    tagged = λ g v e. absurd (let q : None ≡ Some v = sym (none_held ((s.owned + 15) / 16) g) ∙ e in cc);
    known = λ g v e. absurd (let q : None ≡ Some v = sym (none_held ((s.owned + 15) / 16) g) ∙ e in cc);
  }

  pub blank_stands : (shapes : List Shape) (s : Shape) (new : List Area)
      → ((i : ℕ) → i < s.owned → byte_at new (s.base + i) ≡ Some 0)
      → ((i : ℕ) → i < s.owned → tag_at new (s.base + i) ≡ Some false)
      → Stands a shapes s (blank (Placed a) s.owned) new
  unfolding no_value
  blank_stands shapes s new zeros clear =
      let seen : ℕ → Option Value → Cell → Option ℕ = λ i w c. number_in (seen_through (Placed a) shapes w
      (i % 16) c) in
      record {
        bytes = λ i l. zeros i l ∙ sym (ap (λ w. seen i w (cell_or (slice_get (replicate s.owned (Byte 0)) i)))
            (none_held ((s.owned + 15) / 16) (i / 16)) ∙ ap (λ c. seen i None (cell_or c)) (get_replicate s.owned i
            (Byte 0) l));
        tags = λ i l. clear i l ∙ ap tag_of (sym (none_held ((s.owned + 15) / 16) (i / 16)));
      }

  wider : (b l c n : ℕ) → b % 16 ≡ 0 → c % 16 ≡ 0 → Apart b l c n → Apart b l c (16 * ((n + 15) / 16))
  wider b l c n z y (inl before) = inl before
  wider b l c n z y (inr behind) = inr (omega arith)

  pub zeroed : (k : ℕ) (s : Shape) → slice_get m.shapes k ≡ Some s → IsNotReturned s.life → (new : List Area)
      → Zeroed s.base (granules_of s) old new
      → ObjectsFit functions a (zero_object (Placed a) m k) new
  zeroed k s is alive new z =
      let d = Placed a in
      let contents = slice_set m.contents k (blank d s.owned) in
      let shapes = slice_set m.shapes k (record s { life = Active }) in
      let there : k < length m.contents = let l = slice_get_within m.shapes k s is in let e =
      f.one_each in omega arith in
      let own : (c : Content) → slice_get contents k ≡ Some c → blank d s.owned ≡ c =
      λ c e. same_Some (blank d s.owned) c (sym (get_here m.contents k (blank d s.owned) there) ∙ e) in
      let fit = altered k s is Active (λ x. alive) contents new z.areas (set_length m.contents k (blank d s.owned))
      (λ j n. get_there m.contents k j (blank d s.owned) n)
      (λ c e. subst (IsSound shapes functions (record s { life = Active })) (own c e)
      (blank_sound shapes (record s { life = Active })))
      (λ c e q. subst (λ x. Stands a shapes (record s { life = Active }) x new) (own c e)
      (blank_stands shapes (record s { life = Active }) new (λ i l. z.bytes i (omega arith))
      (λ i l. z.tags i (omega arith))))
      (λ j u c n e q st. kept_apart a m.shapes u c s.base (16 * granules_of s) old new (f.aligned j u e)
      (f.aligned k s is)
      (wider u.base u.owned s.base s.owned (f.aligned j u e) (f.aligned k s is)
      (f.spread.apart j k u s e is n (active_stays u.life q) alive)) z.same st) in
      rw is fit

  come_and_go : ObjectsComeAndGo functions a m old
  come_and_go = record {
    zeroes = zeroed;
    ends = λ k. still k Returned (λ e. absurd (let q : Returned ≡ Active = e in cc)) (slice_get m.shapes k) refl
        (λ g e x. absurd x);
    rests = λ k s is alive. still k Inactive (λ e. absurd (let q : Inactive ≡ Active = e in cc))
        (slice_get m.shapes k) refl
        (λ g e x. subst (λ (z : Shape). IsNotReturned z.life) (same_Some s g (sym is ∙ e)) alive);
  }

pub come_and_go_law : ComeAndGoWhereObjectsFit
come_and_go_law functions a m memory f = come_and_go functions a m memory f
