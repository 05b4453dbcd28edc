-- The pointers of a table store what its entries begin with.
use Rattle.std.proofs.Common.{◌≡◌, ℕ, suc, ◌+◌, ◌-◌, ◌%◌, ◌^◌, ◌<◌, ◌≤◌, List, [], ◌∷◌, length, get_or, map, Some, refl}
use Rattle.std.proofs.Common.{sym, ap, ◌∙◌, arith}
use Rattle.std.specs.Prelude.{nat_le, slice_get, slice_index_or, if◌then◌else◌}
use Rattle.std.specs.List.{zip}
use Rattle.std.proofs.lemmas.Bool.Decides.{nat_tests}
use Rattle.cap_ops.specs.declared.capability.TheConstants.{UNSEALED, SENTRY}
use Rattle.cap_ops.specs.Bounded.{bounded}
use Rattle.obj_mem.specs.declared.map.Map.{Map}
use Rattle.obj_mem.specs.Agreement.{Paired}
use Rattle.obj_mem.specs.Values.{Live, Fun, capability_of}
use Rattle.obj_mem.specs.Legal.{ObjectNeed, owned_of}
use Rattle.obj_mem.specs.Standing.{HaveBounds}
use Rattle.obj_mem.specs.Table.{Start, Holds, WholeHeap, pointer_to, pointers_to, sentries_from, start_capability}
use Rattle.obj_mem.specs.Table.{addresses_of, object_base}
use Rattle.cap_reloc.specs.declared.whole_pointers.Pointer.{Pointer}
use Rattle.cap_reloc.specs.Begins.{entries_from, relocation_of, stored_by, IsRelocation}
use Rattle.cap_reloc.specs.Pointers.{whole, sentry, heap, stored, entries}

-- a pointer is, at any place, the relocation of what something begins with, and stores that
pub record Matches (m : Map) (s : Start) (c : Pointer) : Type 0 where
  pub is : (place : ℕ) → stored place c ≡ relocation_of m place s
  pub capability : stored_by (stored 0 c) ≡ start_capability (addresses_of m) (object_base m) s

same_stored : (place base base' offset offset' length length' perms : ℕ) → base ≡ base' → offset ≡ offset' →
    length ≡ length' → stored place (record { base = base; offset = offset; length = length; perms = perms })
    ≡ stored place (record { base = base'; offset = offset'; length = length'; perms = perms })
same_stored place base base' offset offset' length length' perms a b c =
    ap (λ v. stored place (record { base = v; offset = offset; length = length; perms = perms })) a
    ∙ ap (λ v. stored place (record { base = base'; offset = v; length = length; perms = perms })) b
    ∙ ap (λ v. stored place (record { base = base'; offset = offset'; length = v; perms = perms })) c

same_bounded : (low low' high high' perms perms' otype otype' address address' : ℕ) → low ≡ low' → high ≡ high' →
    perms ≡ perms' → otype ≡ otype' → address ≡ address' →
    bounded low high perms otype address ≡ bounded low' high' perms' otype' address'
same_bounded low low' high high' perms perms' otype otype' address address' a b c d e =
    ap (λ v. bounded v high perms otype address) a ∙ ap (λ v. bounded low' v perms otype address) b
    ∙ ap (λ v. bounded low' high' v otype address) c
    ∙ ap (λ v. bounded low' high' perms' v address) d ∙ ap (λ v. bounded low' high' perms' otype' v) e

no_sentry : (word : ℕ) → word < 128 → (if nat_le (2 ^ 63) word then SENTRY else UNSEALED) ≡ UNSEALED
no_sentry word h = grind (arith, nat_tests)

-- ---- pointers to objects

pub part_matches : (m : Map) (object base low length offset perms : ℕ) → object_base m object ≡ base →
    base + low + length < 2 ^ 64 → perms < 128
    → Matches m (Holds (Live object low (low + length) offset perms))
    (record {
      base = (base + low) % 2 ^ 64;
      offset = (offset + 2 ^ 64 - low) % 2 ^ 64;
      length = length;
      perms = perms;
    })
unfolding capability_of relocation_of
part_matches m object base low length offset perms e h small =
    let b : (base + low) % 2 ^ 64 ≡ object_base m object + low = omega arith in
    let t : (base + low) % 2 ^ 64 + length ≡ object_base m object + (low + length) = omega arith in
    let p : perms % 128 ≡ perms = omega arith in
    let a : ((base + low) % 2 ^ 64 + (offset + 2 ^ 64 - low) % 2 ^ 64) % 2 ^ 64
    ≡ (object_base m object + offset) % 2 ^ 64 = omega arith in
    let n : length ≡ low + length - low = omega arith in
    record {
      is = λ place. same_stored place ((base + low) % 2 ^ 64) (object_base m object + low)
          ((offset + 2 ^ 64 - low) % 2 ^ 64) ((offset + 2 ^ 64 - low) % 2 ^ 64) length
          (low + length - low) perms b refl n;
      capability = same_bounded _ _ _ _ _ _ _ _ _ _ b t p (no_sentry perms small) a;
    }

pub whole_matches : (m : Map) (n : ObjectNeed) (object base : ℕ) → object_base m object ≡ base →
    base + owned_of n < 2 ^ 64 → n.permissions < 128 → Matches m (pointer_to n object) (whole n base)
unfolding capability_of relocation_of
whole_matches m n object base e h small =
    let b : base ≡ object_base m object + 0 = omega arith in
    let t : base + owned_of n ≡ object_base m object + owned_of n = omega arith in
    let p : n.permissions % 128 ≡ n.permissions = omega arith in
    let a : (base + 0) % 2 ^ 64 ≡ (object_base m object + 0) % 2 ^ 64 = omega arith in
    let l : owned_of n ≡ owned_of n - 0 = omega arith in
    record {
      is = λ place. same_stored place base (object_base m object + 0) 0 ((0 + 2 ^ 64 - 0) % 2 ^ 64) (owned_of n)
          (owned_of n - 0) n.permissions b refl l;
      capability = same_bounded _ _ _ _ _ _ _ _ _ _ b t p (no_sentry n.permissions small) a;
    }

-- of a row of objects, which have these bases
pub row_matches : {X : Type 0} (m : Map) (need : X → ObjectNeed) (object : ℕ) (xs : List X) (bs : List ℕ) →
    HaveBounds (map need xs) bs → ((x : X) → (need x).permissions < 128)
    → ((k : ℕ) → k < length bs → object_base m (object + k) ≡ get_or bs k 0) →
    Paired (Matches m) (pointers_to (map need xs) object) (map (λ x. whole (need x.0) x.1) (zip xs bs))
row_matches m need object [] [] h small at = tt
row_matches m need object [] (b ∷ bs) h small at = absurd h
row_matches m need object (x ∷ xs) [] h small at = absurd h
row_matches m need object (x ∷ xs) (b ∷ bs) h small at =
    let z : object + 0 ≡ object = omega arith in
    let first : object_base m object ≡ b = ap (object_base m) (sym z) ∙ at 0 (omega arith) in
    let to = h.0.based.to in (
      whole_matches m (need x) object b first (omega arith) (small x),
      row_matches m need (suc object) xs bs h.1 small
          (λ k l. let e : suc object + k ≡ object + suc k = omega arith in
          ap (object_base m) e ∙ at (suc k) (omega arith)),
    )

-- ---- sentries and the heap

pub sentry_matches : (m : Map) (f entry : ℕ) → slice_index_or m.entries f 0 ≡ entry → m.text.0 ≤ entry →
    entry < 2 ^ 64 → Matches m (Holds (Fun f)) (sentry m entry)
unfolding capability_of relocation_of
sentry_matches m f entry e from below =
    let a : (m.text.0 + (entry + 2 ^ 64 - m.text.0) % 2 ^ 64) % 2 ^ 64 ≡ slice_index_or m.entries f 0 = omega arith in
    let o : (entry + 2 ^ 64 - m.text.0) % 2 ^ 64 ≡ slice_index_or m.entries f 0 - m.text.0 = omega arith in
    record {
      is = λ place. same_stored place m.text.0 m.text.0 ((entry + 2 ^ 64 - m.text.0) % 2 ^ 64)
          (slice_index_or m.entries f 0 - m.text.0) m.text.1 m.text.1 (2 ^ 63 + 3) refl o refl;
      capability = ap (λ v. bounded m.text.0 (m.text.0 + m.text.1) 3 SENTRY v) a;
    }

pub sentries_match : (m : Map) (f : ℕ) (es : List ℕ) →
    ((k : ℕ) → k < length es → slice_index_or m.entries (f + k) 0 ≡ get_or es k 0) →
    ((k : ℕ) → k < length es → m.text.0 ≤ get_or es k 0)
    → ((k : ℕ) → k < length es → get_or es k 0 < 2 ^ 64) →
    Paired (Matches m) (sentries_from (length es) f) (map (sentry m) es)
sentries_match m f [] at from below = tt
sentries_match m f (e ∷ es) at from below =
    let z : f + 0 ≡ f = omega arith in
    let first : slice_index_or m.entries f 0 ≡ e = ap (λ v. slice_index_or m.entries v 0) (sym z) ∙ at 0 (omega arith)
    in (
      sentry_matches m f e first (from 0 (omega arith)) (below 0 (omega arith)),
      sentries_match m (suc f) es (λ k l. let s : suc f + k ≡ f + suc k = omega arith in
          ap (λ v. slice_index_or m.entries v 0) s ∙ at (suc k) (omega arith))
          (λ k l. from (suc k) (omega arith)) (λ k l. below (suc k) (omega arith)),
    )

pub heap_matches : (m : Map) → m.heap.0 < 2 ^ 64 → Matches m WholeHeap (heap m)
unfolding relocation_of
heap_matches m h =
    let a : (m.heap.0 + 0) % 2 ^ 64 ≡ m.heap.0 = omega arith in
    record { is = λ place. refl; capability = ap (λ v. bounded m.heap.0 (m.heap.0 + m.heap.1) 125 UNSEALED v) a }

-- ---- at their places

pub entries_are : (m : Map) (place : ℕ) (ss : List Start) (cs : List Pointer) → Paired (Matches m) ss cs →
    Paired (IsRelocation m) (entries_from place ss) (entries place cs)
unfolding entries_from entries
entries_are m place [] [] h = tt
entries_are m place [] (c ∷ cs) h = absurd h
entries_are m place (s ∷ ss) [] h = absurd h
entries_are m place (s ∷ ss) (c ∷ cs) h =
    (record { is = h.0.is place; capability = h.0.capability }, entries_are m (place + 16) ss cs h.1)

-- ---- lists of pairs

pub paired_map : {A B C : Type 0} (R : B → C → Type 0) (f : A → B) (g : A → C) (xs : List A) →
    ((k : ℕ) (x : A) → slice_get xs k ≡ Some x → R (f x) (g x)) → Paired R (map f xs) (map g xs)
paired_map R f g [] h = tt
paired_map R f g (x ∷ xs) h = (h 0 x refl, paired_map R f g xs (λ k y e. h (suc k) y e))
