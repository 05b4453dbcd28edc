-- The parts of an object: where elements, members and scalars lie (C11 6.7.9).
use Rattle.std.proofs.Common.{◌≡◌, ℕ, zero, suc, ◌+◌, ◌-◌, ◌*◌, ◌<◌, ◌≤◌, List, [], ◌∷◌, Option, Some, None, refl, sym}
use Rattle.std.proofs.Common.{subst, ◌∙◌, arith}
use Rattle.std.specs.Prelude.{slice_get, nat_le, Bool, true, false, if◌then◌else◌}
use Rattle.std.proofs.lemmas.Option.{none-some, same_Some}
use Rattle.cap_concentrate.specs.Rounding.{alignment}
use Rattle.cap_concentrate.proofs.Laws.{owned_ge}
use Rattle.cap_concentrate.proofs.Least.{rounded_up_ge}
use Rattle.c_tree.specs.declared.syntax.RecordKind.{RecordKind}
use Rattle.c_tree.specs.declared.syntax.RecordKind.TheVariants.{Struct, Union}
use Rattle.c_tree.specs.Layout.{Extent, with_extent, times, member_align, member_offset, behind, beside, no_members}
use Rattle.c_tree.specs.Layout.{whole, within, size_limit, size_of}
use Rattle.c_tree.specs.Types.{Ty, Array}
use Rattle.c_tree.specs.Scopes.{Part, TagState, type_extent, tag_extent}
use Rattle.c_tree.specs.Declarators.{members_extent, record_extent}
use Rattle.c_tree.specs.Initializers.{or_none, next_within, struct_places, first_place, record_places, known_places}
use Rattle.c_tree.specs.Initializers.{tag_places}
use Rattle.c_tree.proofs.Aligned.{IsPower, alignment_is_power}
use Rattle.c_tree.proofs.Sizes.{size_same}
use Rattle.typing_laws.proofs.Facts.{TypeOk, PartOk}
use Rattle.typing_laws.proofs.Extents.{AllParts, AllTags}
use Rattle.typing_laws.proofs.Divides.{Multiple, multiple_self, multiple_zero, multiple_on, multiple_times}
use Rattle.typing_laws.proofs.Divides.{max_multiples}
use Rattle.typing_laws.proofs.Divides.{power_pos, member_align_power, behind_power, extent_aligns}
use Rattle.typing_laws.proofs.Numbers.{extent_within_limit}

-- a part of a type lies in an object with an extent
pub record Within (ts : List TagState) (z : Extent) (o : ℕ) (u : Ty) : Type 0 where
  pub extent : Extent
  pub is : type_extent ts u ≡ Some extent
  pub inside : o + extent.size ≤ z.size
  pub aligned : Multiple o extent.align
  pub divides : Multiple z.align extent.align
  pub type : TypeOk ts u

-- ---- members

-- a member that has a place has an extent
placed : {A : Type 0} (w y : Extent) (f : Extent → List A) (k : ℕ) (a : A) →
    slice_get (or_none (next_within w (Some y)) f) k ≡ Some a → slice_get (f y) k ≡ Some a
placed w y f k a e = by (nat_le w.size size_limit) (nat_le y.size size_limit) e
  where
    by : (b c : Bool) → slice_get (or_none (if b then (if c then Some y else None) else None) f) k ≡ Some a →
        slice_get (f y) k ≡ Some a
    by false c e = absurd (none-some a e)
    by true false e = absurd (none-some a e)
    by true true e = e

module _ (ts : List TagState) (all : AllTags ts) where
  power_of : (t : Ty) (y : Extent) → type_extent ts t ≡ Some y → IsPower y.align
  power_of t y e = (extent_aligns ts all t y e).power

  known_member : (place : Extent → Extent → Extent) (m : Part) (ms : List Part) (w z : Extent) → PartOk ts m →
      members_extent ts place (m ∷ ms) w ≡ Some z →
      (y : Extent) × (type_extent ts m.of ≡ Some y) × (members_extent ts place ms (place y w) ≡ Some z)
  known_member place m ms w z h e =
      let c = h.complete in (
        c.0,
        c.1,
        subst (λ o. with_extent o (λ y. members_extent ts place ms (place y w)) ≡ Some z) c.1 e,
      )

  -- the end is not before, and the alignment is a multiple
  Ends : Extent → Extent → Type 0
  Ends w z = (w.size ≤ z.size) × Multiple z.align w.align

  whole_ends : (w z : Extent) → IsPower w.align → whole w ≡ Some z → Ends w z
  unfolding Ends
  whole_ends w z p e = subst (λ (v : Extent). (w.size ≤ v.size) × Multiple v.align w.align) (same_Some _ z e)
      (rounded_up_ge w.size w.align (power_pos w.align p), multiple_self w.align)

  member_align_multiple : (y : Extent) → IsPower y.align → Multiple (member_align y) y.align
  member_align_multiple y p = (max_multiples y.align (alignment y.size) p (alignment_is_power y.size)).0

  behind_ends : (y w : Extent) → IsPower y.align → IsPower w.align → Ends w (behind y w)
  unfolding Ends
  behind_ends y w p q =
      let a = member_align_power y p in
      let ge = rounded_up_ge w.size (member_align y) (power_pos (member_align y) a) in
      (omega (arith, ge), (max_multiples w.align (member_align y) q a).0)

  beside_ends : (y w : Extent) → IsPower y.align → IsPower w.align → Ends w (beside y w)
  unfolding Ends
  beside_ends y w p q = (omega arith, (max_multiples w.align (member_align y) q (member_align_power y p)).0)

  members_end : (place : Extent → Extent → Extent) →
      ((y w : Extent) → IsPower y.align → IsPower w.align → Ends w (place y w)) →
      ((y w : Extent) → IsPower y.align → IsPower w.align → IsPower (place y w).align) →
      (ms : List Part) (w z : Extent) → AllParts ts ms → IsPower w.align → members_extent ts place ms w ≡ Some z →
      Ends w z
  unfolding Ends
  members_end place f g [] w z h p e = whole_ends w z p e
  members_end place f g (m ∷ ms) w z h p e =
      let y = known_member place m ms w z h.0 e in
      let q = power_of m.of y.0 y.1 in
      let a = f y.0 w q p in
      let b = members_end place f g ms (place y.0 w) z h.1 (g y.0 w q p) y.2 in
      (omega (arith, a.0, b.0), multiple_on z.align (place y.0 w).align w.align b.1 a.1)

  struct_place : (ms : List Part) (w z : Extent) (k o : ℕ) (u : Ty) → AllParts ts ms → IsPower w.align →
      members_extent ts behind ms w ≡ Some z → slice_get (struct_places ts ms w) k ≡ Some (o, u) → Within ts z o u
  unfolding Ends
  struct_place [] w z k o u h p e q = absurd cc
  struct_place (m ∷ ms) w z k o u h p e q =
      let y = known_member behind m ms w z h.0 e in
      let r = power_of m.of y.0 y.1 in
      let here : slice_get ((member_offset y.0 w, m.of) ∷ struct_places ts ms (behind y.0 w)) k ≡ Some (o, u) =
      placed w y.0 (λ y. (member_offset y w, m.of) ∷ struct_places ts ms (behind y w)) k (o, u)
      (subst (λ x. slice_get (or_none (next_within w x)
      (λ y. (member_offset y w, m.of) ∷ struct_places ts ms (behind y w))) k ≡ Some (o, u)) y.1 q) in
      let b = members_end behind behind_ends behind_power ms (behind y.0 w) z h.1 (behind_power y.0 w r p) y.2 in
      let a = member_align_power y.0 r in
      let first : Within ts z (member_offset y.0 w) m.of = record {
        extent = y.0;
        is = y.1;
        inside = let g = owned_ge y.0.size in omega (arith, b.0, g);
        aligned = multiple_on (member_offset y.0 w) (member_align y.0) y.0.align (_, refl)
            (member_align_multiple y.0 r);
        divides = multiple_on z.align (behind y.0 w).align y.0.align b.1
            (multiple_on (behind y.0 w).align (member_align y.0) y.0.align
            (max_multiples w.align (member_align y.0) p a).1 (member_align_multiple y.0 r));
        type = h.0.type;
      } in
      later m ms w z k o u y.0 first (λ j g. struct_place ms (behind y.0 w) z j o u h.1 (behind_power y.0 w r p) y.2 g)
      here
    where
      later : (m : Part) (ms : List Part) (w z : Extent) (k o : ℕ) (u : Ty) (y : Extent) →
          Within ts z (member_offset y w) m.of →
          ((j : ℕ) → slice_get (struct_places ts ms (behind y w)) j ≡ Some (o, u) → Within ts z o u) →
          slice_get ((member_offset y w, m.of) ∷ struct_places ts ms (behind y w)) k ≡ Some (o, u) → Within ts z o u
      later m ms w z zero o u y f g e =
          let i = same_Some (member_offset y w, m.of) (o, u) e in subst (λ (p : ℕ × Ty). Within ts z p.0 p.1) i f
      later m ms w z (suc k) o u y f g e = g k e

  union_place : (ms : List Part) (z : Extent) (k o : ℕ) (u : Ty) → AllParts ts ms →
      members_extent ts beside ms no_members ≡ Some z → slice_get (first_place ts ms) k ≡ Some (o, u) → Within ts z o u
  unfolding Ends
  union_place [] z k o u h e q = absurd cc
  union_place (m ∷ ms) z k o u h e q =
      let y = known_member beside m ms no_members z h.0 e in
      let here : slice_get {X = ℕ × Ty} ((0, m.of) ∷ []) k ≡ Some (o, u) = placed no_members y.0 (λ x. (0, m.of) ∷ []) k (o, u)
      (subst (λ x. slice_get {X = ℕ × Ty} (or_none (within x) (λ y. (0, m.of) ∷ [])) k ≡ Some (o, u)) y.1 q) in
      let r = power_of m.of y.0 y.1 in
      let p : IsPower 1 = (0, refl) in
      let b = members_end beside beside_ends behind_power ms (beside y.0 no_members) z h.1
      (behind_power y.0 no_members r p) y.2 in
      let a = member_align_power y.0 r in
      alone k here (record {
        extent = y.0;
        is = y.1;
        inside = let g = owned_ge y.0.size in omega (arith, b.0, g);
        aligned = multiple_zero y.0.align;
        divides = multiple_on z.align (beside y.0 no_members).align y.0.align b.1
            (multiple_on (beside y.0 no_members).align (member_align y.0) y.0.align
            (max_multiples 1 (member_align y.0) p a).1 (member_align_multiple y.0 r));
        type = h.0.type;
      })
    where
      alone : (j : ℕ) → slice_get {X = ℕ × Ty} ((0, m.of) ∷ []) j ≡ Some (o, u) → Within ts z 0 m.of → Within ts z o u
      alone (suc j) i f = absurd cc
      alone zero i f = let g = same_Some (0, m.of) (o, u) i in subst (λ (v : ℕ × Ty). Within ts z v.0 v.1) g f

  record_place : (k : RecordKind) (ms : List Part) (z : Extent) (j o : ℕ) (u : Ty) → AllParts ts ms →
      record_extent ts k ms ≡ Some z → slice_get (record_places ts k ms) j ≡ Some (o, u) → Within ts z o u
  record_place Struct ms z j o u h e q = struct_place ms no_members z j o u h (0, refl) e q
  record_place Union ms z j o u h e q = union_place ms z j o u h e q

  all_parts : (ns : List Part) → ((k : ℕ) (m : Part) → slice_get ns k ≡ Some m → PartOk ts m) → AllParts ts ns
  all_parts [] f = tt
  all_parts (n ∷ ns) f = (f 0 n refl, all_parts ns (λ k m q. f (suc k) m q))

  known_place : (n : ℕ) (t : TagState) (o : Option (List Part)) (z : Extent) (j p : ℕ) (u : Ty) →
      slice_get ts n ≡ Some t → t.members ≡ o → t.extent ≡ Some z →
      slice_get (known_places ts t.kind o) j ≡ Some (p, u) → Within ts z p u
  known_place n t None z j p u e i x q = absurd cc
  known_place n t (Some ms) z j p u e i x q =
      let k = (all n t e).known ms i in
      record_place t.kind ms z j p u (all_parts ms (λ l m r. (all n t e).parts ms l m i r)) (k.3 ∙ sym k.2 ∙ x) q

  pub tag_place : (n : ℕ) (o : Option TagState) (z : Extent) (j p : ℕ) (u : Ty) → slice_get ts n ≡ o →
      tag_extent o ≡ Some z → slice_get (tag_places ts o) j ≡ Some (p, u) → Within ts z p u
  tag_place n None z j p u e x q = absurd cc
  tag_place n (Some t) z j p u e x q = known_place n t t.members z j p u e refl x q

-- ---- items of a list in braces

-- part k of so many elements of a size
element_inside : (k n size : ℕ) → k < n → k * size + size ≤ n * size
element_inside k n size l =
    let d : n ≡ k + 1 + (n - (k + 1)) = omega arith in
    rw d (omega arith)

pub item_of_array : (ts : List TagState) → AllTags ts → (t : Ty) (n k : ℕ) (y x : Extent) → TypeOk ts t →
    type_extent ts t ≡ Some y → k < n → type_extent ts (Array t n) ≡ Some x →
    Within ts x (k * size_of (type_extent ts t)) t
item_of_array ts all t zero k y x h g l e = absurd (omega (arith, l))
item_of_array ts all t (suc n) k y x h g l e =
    let i : Some (record { size = suc n * y.size; align = y.align }) ≡ Some x =
    subst (λ o. with_extent o (times (suc n)) ≡ Some x) g e in
    let step = size_same (type_extent ts t) y g (extent_within_limit ts all t y h g) in
    subst (λ (x : Extent). Within ts x (k * size_of (type_extent ts t)) t) (same_Some _ x i)
    (subst (λ m. Within ts (record { size = suc n * y.size; align = y.align }) (k * m) t) (sym step) (record {
      extent = y;
      is = g;
      inside = element_inside k (suc n) y.size l;
      aligned = multiple_times k y.size y.align (extent_aligns ts all t y g).size;
      divides = multiple_self y.align;
      type = h;
    }))
