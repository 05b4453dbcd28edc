-- Where members begin, as it is kept.
use Rattle.std.proofs.Common.{◌≡◌, ℕ, zero, suc, ◌+◌, ◌-◌, ◌%◌, ◌^◌, ◌<◌, ◌≤◌, List, [], ◌∷◌, ◌++◌, length, Option}
use Rattle.std.proofs.Common.{Some, None, refl, sym, ap, subst, ◌⊎◌, inl, inr, ◌∙◌, arith, drop, drop-cons, add-one}
use Rattle.std.proofs.Common.{false, get_or, replicate}
use Rattle.std.specs.Prelude.{slice_get}
use Rattle.std.proofs.lemmas.Bool.{cases_lt}
use Rattle.std.proofs.lemmas.List.{length_push}
use Rattle.std.proofs.lemmas.Option.{none-some, slice_get_past, same_Some}
use Rattle.cap_concentrate.specs.Rounding.{owned, rounded_up}
use Rattle.c_tree.specs.Layout.{Extent, bare, bare_of, bare_within, behind, extent, extent_of, extent_within}
use Rattle.c_tree.specs.Layout.{member_align}
use Rattle.c_tree.specs.Layout.{member_offset, members, members_of, no_members}
use Rattle.c_tree.specs.Layout.{size_limit, struct_offset, whole, with_extent}
use Rattle.c_tree.specs.declared.typed.CType.{CType}
use Rattle.c_tree.specs.declared.typed.CType.TheVariants as ctypes
use Rattle.c_tree.specs.declared.typed.Member.{Member}
use Rattle.c_tree.proofs.Depth.{depth_enough, members-more}
use Rattle.cap_layout.proofs.Lengths.{rounded_up_bounds}
use Rattle.cap_layout.proofs.Places.{members_over, offset_here, offset_later, union_place}
use Rattle.cap_layout.proofs.Steps.{larger, members_align}
use Rattle.cheri_c_sem.specs.Types.{offset_in, offset_or_zero}
use Rattle.mean_run.specs.Offsets.{AreOffsets, AreOffsetsOf, AreStarts, AreStartsIn, AreWithin, HasMember}
use Rattle.mean_run.specs.Offsets.{IsWithin, end_at, end_behind}
use Rattle.mean_run.proofs.Counts.{get_push, missing}

-- ---- the members of a struct

next : (ms : List Member) (i : ℕ) (m : Member) → i < length ms → m ≡ get_or ms i m → drop i ms ≡ m ∷ drop (i + 1) ms
next ms i m lt e = rw (add-one, drop-cons ms i m lt) (ap (λ n. n ∷ drop (suc i) ms) (sym e))

module _ (go : ℕ → Option Extent) where
  -- only the end of the members before counts for where a member begins
  ends_at : (ms : List Member) (k : ℕ) (x y : Extent) → x.size ≡ y.size →
      struct_offset go ms k x ≡ struct_offset go ms k y
  unfolding struct_offset
  ends_at [] k x y e = refl
  ends_at (m ∷ ms) zero x y e = ap (λ n. with_extent (go m.of) (λ z. Some (rounded_up n (member_align z)))) e
  ends_at (m ∷ ms) (suc k) x y e = by (λ z. ends_at ms k (behind z x) (behind z y)
      (ap (λ n. rounded_up n (member_align z) + owned z.size) e)) (go m.of)
    where
      by : ((z : Extent) → struct_offset go ms k (behind z x) ≡ struct_offset go ms k (behind z y)) →
          (o : Option Extent) → with_extent o (λ z. struct_offset go ms k (behind z x))
          ≡ with_extent o (λ z. struct_offset go ms k (behind z y))
      by h None = refl
      by h (Some z) = h z

  -- members of a struct within the limit are
  pub all_within : (ms : List Member) (e y : Extent) → y.size ≤ size_limit → members behind go ms e ≡ Some y →
      AreWithin go e.size ms
  unfolding members
  all_within [] e y small h = tt
  all_within (m ∷ ms) e y small h = by (λ x f. all_within ms (behind x e) y small f) (go m.of) refl h
    where
      not_over : (x : Extent) → members behind go ms (behind x e) ≡ Some y → (behind x e).size ≤ size_limit
      not_over x f =
          elim (cases_lt size_limit (behind x e).size) as (λ _. (behind x e).size ≤ size_limit) [
            | inl lt ↦ absurd (let over = members_over false go ms (behind x e) y lt f in omega arith)
            | inr le ↦ le
          ]

      by : ((x : Extent) → members behind go ms (behind x e) ≡ Some y → AreWithin go (behind x e).size ms) →
          (o : Option Extent) → go m.of ≡ o → with_extent o (λ x. members behind go ms (behind x e)) ≡ Some y →
          AreWithin go e.size (m ∷ ms)
      by on None is f = absurd (none-some y f)
      by on (Some x) is f =
          let below = not_over x f in
          let l = larger false x e in
          (x, is, omega (arith, l.member), omega (arith, l.before), on x f)

  module _ (ms : List Member) where
    -- the offsets of the first so many members, and where they end
    pub record Begun (row : List ℕ) (end i : ℕ) : Type 0 where
      pub each : (k n : ℕ) → slice_get row k ≡ Some n → Some n ≡ struct_offset go ms k no_members
      pub within : AreWithin go end (drop i ms)
      pub on : (k : ℕ) → struct_offset go ms (i + k) no_members ≡ struct_offset go (drop i ms) k (end_at end)

    pub begun_none : AreWithin go 0 ms → Begun [] 0 0
    begun_none w = record {
      each = λ k n e. absurd (let g : None ≡ Some n = e in cc);
      within = w;
      on = λ k. let z : 0 + k ≡ k = omega arith in ap (λ k. struct_offset go ms k no_members) z;
    }

    module _ (row : List ℕ) (end start ends i : ℕ) (m : Member) (lt : i < length ms) (e : m ≡ get_or ms i m)
        (count : length row ≡ i) (b : Begun row end i) where
      by_place : Some start ≡ struct_offset go ms i no_members → (k n : ℕ) →
          (slice_get row k ≡ Some n) ⊎ ((k ≡ length row) × (n ≡ start)) → Some n ≡ struct_offset go ms k no_members
      by_place h k n (inl q) = b.each k n q
      by_place h k n (inr q) =
          ap Some q.1 ∙ (h ∙ ap (λ k. struct_offset go ms k no_members) (sym (q.0 ∙ count)))

      pub begun_more : ((x : Extent) → go m.of ≡ Some x → x.size ≤ size_limit → end ≤ size_limit →
          (start ≡ member_offset x (end_at end)) × (ends ≡ end_behind x end)) → Begun (row ++ start ∷ []) ends (i + 1)
      begun_more place =
          let w : AreWithin go end (m ∷ drop (i + 1) ms) = subst (AreWithin go end) (next ms i m lt e) b.within in
          let x = w.0 in
          let is = w.1 in
          let p = place x is w.2 w.3 in
          let at : i + 0 ≡ i = omega arith in
          let here : Some start ≡ struct_offset go ms i no_members = ap Some p.0
          ∙ sym (ap (λ k. struct_offset go ms k no_members) (sym at) ∙ b.on 0
          ∙ offset_here go ms i 0 m (end_at end) x lt e is refl) in
          record {
            each = λ k n g. by_place here k n (get_push row start k n g);
            within = subst (λ n. AreWithin go n (drop (i + 1) ms)) (sym p.1) w.4;
            on = λ k.
                let more : i + 1 + k ≡ i + suc k = omega arith in
                let back : suc k - 1 ≡ k = omega arith in
                ap (λ k. struct_offset go ms k no_members) more ∙ b.on (suc k)
                ∙ offset_later go ms i (suc k) m (end_at end) x lt e is (omega arith)
                ∙ ap (λ k. struct_offset go (drop (i + 1) ms) k (behind x (end_at end))) back
                ∙ ends_at (drop (i + 1) ms) k (behind x (end_at end)) (end_at ends) (sym p.1);
          }

    pub started : (row : List ℕ) (end i : ℕ) → length row ≡ i → (AreWithin go 0 ms → Begun row end i) →
        i ≡ length ms → AreStarts go ms row
    started row end i count b e = record { count = count ∙ e; each = λ w. (b w).each }

-- ---- the members of a type

pub of_zeros : (count k n : ℕ) → slice_get (replicate count 0) k ≡ Some n → (n ≡ 0) × (k < count)
of_zeros zero k n e = absurd (let g : None ≡ Some n = e in cc)
of_zeros (suc count) zero n e = (sym (same_Some 0 n e), omega arith)
of_zeros (suc count) (suc k) n e = let h = of_zeros count k n e in (h.0, omega (arith, h.1))

pub in_union : (go : ℕ → Option Extent) (tag : ℕ) (ms : List Member) (count : ℕ) → count ≡ length ms →
    length {A = ℕ} (replicate count 0) ≡ count → AreStartsIn go (Some (ctypes.Union tag ms)) (replicate count 0)
in_union go tag ms count e l = record {
  count = l ∙ e;
  each = λ w k n h. let z = of_zeros count k n h in ap Some z.0 ∙ sym (union_place ms k (omega (arith, z.1)));
}

pub in_struct : (go : ℕ → Option Extent) (tag : ℕ) (ms : List Member) (row : List ℕ) → AreStarts go ms row →
    AreStartsIn go (Some (ctypes.Struct tag ms)) row
in_struct go tag ms row s = record { count = s.count; each = s.each }

whole_is : (o : Option Extent) (y : Extent) → with_extent o whole ≡ Some y →
    (x : Extent) × (o ≡ Some x) × (y.size ≡ rounded_up x.size x.align)
whole_is None y e = absurd (none-some y e)
whole_is (Some x) y e = (x, refl, sym (ap (λ (z : Extent). z.size) (same_Some _ y e)))

module _ (types : List CType) where
  struct_within : (d : ℕ) (ms : List Member) (y : Extent) →
      with_extent (members behind (extent_within d types) ms no_members) whole ≡ Some y → y.size ≤ size_limit →
      AreWithin (extent types) 0 ms
  struct_within d ms y e small =
      let w = whole_is (members behind (extent_within d types) ms no_members) y e in
      let a = members_align false (extent_within d types) ms no_members w.0 (omega arith) w.1 in
      let b = rounded_up_bounds w.0.size w.0.align a in
      all_within (extent types) ms no_members w.0 (omega (arith, w.2, b.0))
      (members-more behind (extent_within d types) (extent types) ms no_members w.0 (depth_enough types d) w.1)

  within_by : (d t : ℕ) (y : Extent) → extent_within d types t ≡ Some y → y.size ≤ size_limit →
      IsWithin (extent types) (bare_within d types t)
  unfolding bare_within extent_within
  within_by zero t y e small = tt
  within_by (suc d) t y e small = by (λ u e. within_by d u y e small) (slice_get types t) e
    where
      by : ((u : ℕ) → extent_within d types u ≡ Some y → IsWithin (extent types) (bare_within d types u)) →
          (o : Option CType) → extent_of o (extent_within d types) ≡ Some y →
          IsWithin (extent types) (bare_of o (bare_within d types))
      by h None e = tt
      by h (Some (ctypes.Const u)) e = h u e
      by h (Some (ctypes.Struct tag ms)) e = struct_within d ms y e small
      by h (Some c) e = tt

  pub in_type : (t : ℕ) (o : Option CType) (row : List ℕ) → bare types t ≡ o → AreStartsIn (extent types) o row →
      AreOffsetsOf types t row
  in_type t o row e s =
      let h = subst (λ o. AreStartsIn (extent types) o row) (sym e) s in
      record { count = h.count; each = λ w. h.each (within_by (length types) t w.0 w.1 w.2) }

-- all types, as far as they go
pub record Listed (types : List CType) (all : List (List ℕ)) (i : ℕ) : Type 0 where
  pub count : length all ≡ i
  pub each : (t : ℕ) (row : List ℕ) → t < 2 ^ 32 → slice_get all t ≡ Some row → AreOffsetsOf types t row

pub listed_none : (types : List CType) → Listed types [] 0
listed_none types =
    record { count = refl; each = λ t row lt e. absurd (let g : None ≡ Some row = e in cc) }

of_place : (types : List CType) (all : List (List ℕ)) (i : ℕ) (row : List ℕ) → Listed types all i →
    (i < 2 ^ 32 → AreOffsetsOf types i row) → (t : ℕ) (r : List ℕ) → t < 2 ^ 32 →
    (slice_get all t ≡ Some r) ⊎ ((t ≡ length all) × (r ≡ row)) → AreOffsetsOf types t r
of_place types all i row l h t r lt (inl q) = l.each t r lt q
of_place types all i row l h t r lt (inr q) =
    let at : t ≡ i = q.0 ∙ l.count in
    subst (λ r. AreOffsetsOf types t r) (sym q.1)
    (subst (λ k. AreOffsetsOf types k row) (sym at) (h (subst (λ k. k < 2 ^ 32) at lt)))

pub listed_more : (types : List CType) (all : List (List ℕ)) (i : ℕ) (row : List ℕ) → Listed types all i →
    (i < 2 ^ 32 → AreOffsetsOf types i row) → Listed types (all ++ row ∷ []) (i + 1)
listed_more types all i row l h = record {
  count = length_push all row ∙ ap (λ k. k + 1) l.count;
  each = λ t r lt e. of_place types all i row l h t r lt (get_push all row t r e);
}

pub of_number : (types : List CType) (t : ℕ) (row : List ℕ) → t < 2 ^ 32 → AreOffsetsOf types (t % 2 ^ 32) row →
    AreOffsetsOf types t row
of_number types t row lt h =
    let e : t % 2 ^ 32 ≡ t = omega arith in
    subst (λ k. AreOffsetsOf types k row) e h

pub listed_all : (types : List CType) (all : List (List ℕ)) (i : ℕ) → Listed types all i → i ≡ length types →
    AreOffsets types all
listed_all types all i l e = record { count = l.count ∙ e; each = l.each }

-- ---- looked up

bare_past : (d : ℕ) (types : List CType) (t : ℕ) → slice_get types t ≡ None → bare_within d types t ≡ None
unfolding bare_within
bare_past zero types t e = refl
bare_past (suc d) types t e = rw e refl

module _ (types : List CType) (all : List (List ℕ)) (known : AreOffsets types all) (t member : ℕ) (lt : t < 2 ^ 32)
    (has : HasMember types t member) where
  pub offset_found : (row : List ℕ) (n : ℕ) → slice_get all t ≡ Some row → slice_get row member ≡ Some n →
      n ≡ offset_in types t member
  offset_found row n e g = ap offset_or_zero ((known.each t row lt e).each has.whole member n g)

  pub not_past : (row : List ℕ) → slice_get all t ≡ Some row → slice_get row member ≡ None → ⊥
  not_past row e g =
      let count = (known.each t row lt e).count in
      let there = has.there in
      let past = missing row member g in
      omega arith

  pub not_missing : slice_get all t ≡ None → ⊥
  not_missing e =
      let count = known.count in
      let past = missing all t e in
      let none = bare_past (length types) types t (slice_get_past types t (omega arith)) in
      let empty : length (members_of (bare types t)) ≡ 0 = ap (λ o. length (members_of o)) none in
      let there = has.there in
      omega arith
