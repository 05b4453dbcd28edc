-- A step of a walk over members.
use Rattle.std.proofs.Common.{◌≡◌, ℕ, suc, ◌+◌, ◌<◌, ◌≤◌, Bool, true, false, ltb, List, [], ◌∷◌, length, get_or, drop}
use Rattle.std.proofs.Common.{drop-cons, add-one, Option, Some, None, Err, refl, sym, ap, subst, ◌∙◌, arith}
use Rattle.std.proofs.Math.ListN.{drop_of_length-le}
use Rattle.std.proofs.lemmas.List.{get_or_default}
use Rattle.std.proofs.lemmas.Bool.{ltb-true, ltb-false}
use Rattle.std.proofs.lemmas.Option.{none-some}
use Rattle.cap_concentrate.specs.Rounding.{rounded_up}
use Rattle.cap_concentrate.proofs.Owned.{owned_ge, alignment_pos}
use Rattle.cap_layout.proofs.Lengths.{rounded_up_bounds}
use Rattle.c_tree.specs.declared.typed.Member.{Member}
use Rattle.c_tree.specs.Layout.{Extent, size_limit, with_extent, member_align, no_members, members, whole}
use Rattle.cap_layout.specs.declared.answers.LayoutFault.{LayoutFault}
use Rattle.cap_layout.specs.declared.answers.LayoutFault.TheVariants.{TooLarge, Incomplete}
use Rattle.cap_layout.specs.Answers.{Layout, Fits, Exceeds, IsLayout, extent_is, greatest_align}
use Rattle.cap_layout.specs.Walks.{placing, Walk}

-- the end with a member is past the end before it and past the member's size
pub record IsLarger (m x y : Extent) : Type 0 where
  pub before : x.size ≤ y.size
  pub member : m.size ≤ y.size
  pub align : x.align ≤ y.align

pub larger : (shared : Bool) (m x : Extent) → IsLarger m x (placing shared m x)
larger false m x =
    let a : 0 < member_align m = omega (arith, alignment_pos m.size) in
    let r = rounded_up_bounds x.size (member_align m) a in
    let o = owned_ge m.size in
    record { before = omega (arith, r.0); member = omega (arith, o); align = omega arith }
larger true m x =
    let o = owned_ge m.size in
    record { before = omega arith; member = omega (arith, o); align = omega arith }

pub members_align : (s : Bool) (go : ℕ → Option Extent) (ms : List Member) (x y : Extent) → 0 < x.align →
    members (placing s) go ms x ≡ Some y → 0 < y.align
unfolding members
members_align s go [] x y p e = let f : x ≡ y = cc in subst (λ (z : Extent). 0 < z.align) f p
members_align s go (m ∷ ms) x y p e =
    elim (go m.of) as (λ o. with_extent o (λ z. members (placing s) go ms (placing s z x)) ≡ Some y → 0 < y.align) [
      | None ↦ λ f. absurd (none-some y f)
      | Some z ↦ λ f. members_align s go ms (placing s z x) y (omega (arith, (larger s z x).align)) f
    ] e

-- a fault of the members is one of the struct or union
pub whole_fault : (s : Bool) (go : ℕ → Option Extent) (ms : List Member) (f : LayoutFault) →
    IsLayout (members (placing s) go ms no_members) (Err f) →
    IsLayout (with_extent (members (placing s) go ms no_members) whole) (Err f)
whole_fault s go ms TooLarge h =
    let p = members_align s go ms no_members h.extent (omega arith) h.is in
    let b = rounded_up_bounds h.extent.size h.extent.align p in
    record {
      extent = record { size = rounded_up h.extent.size h.extent.align; align = h.extent.align };
      is = ap (λ x. with_extent x whole) h.is;
      over = omega (arith, b.0, h.over);
    }
whole_fault s go ms Incomplete h = ap (λ x. with_extent x whole) h

turn : (s : Bool) (go : ℕ → Option Extent) (ms : List Member) (i : ℕ) (m : Member) (x : Extent) → i < length ms →
    m ≡ get_or ms i m → members (placing s) go (drop i ms) x
    ≡ with_extent (go m.of) (λ y. members (placing s) go (drop (i + 1) ms) (placing s y x))
unfolding members
turn s go ms i m x lt e =
    let d : drop i ms ≡ m ∷ drop (i + 1) ms =
    rw (add-one, drop-cons ms i m lt) (ap (λ n. n ∷ drop (suc i) ms) (sym e)) in
    rw d refl

-- a member that is not complete
pub walk_none : (b s : Bool) (go : ℕ → Option Extent) (ms : List Member) (i : ℕ) (m : Member) (end : Layout) →
    i < length ms → m ≡ get_or ms i m → go m.of ≡ None → Walk b (placing s) go ms (drop i ms) end →
    members (placing s) go ms no_members ≡ None
walk_none false s go ms i m end lt e n w =
    w.0 ∙ turn s go ms i m _ lt e
    ∙ ap (λ o. with_extent o (λ y. members (placing s) go (drop (i + 1) ms) (placing s y (extent_is end)))) n
walk_none true s go ms i m end lt e n w =
    w.2 ∙ turn s go ms i m _ lt e
    ∙ ap (λ o. with_extent o (λ y. members (placing s) go (drop (i + 1) ms) (placing s y w.0))) n

-- a member that is too large
pub walk_large : (b s : Bool) (go : ℕ → Option Extent) (ms : List Member) (i : ℕ) (m : Member) (end : Layout) →
    i < length ms → m ≡ get_or ms i m → Exceeds (go m.of) → Walk b (placing s) go ms (drop i ms) end →
    Walk true (placing s) go ms (drop (i + 1) ms) end
walk_large false s go ms i m end lt e h w = (
  placing s h.extent (extent_is end),
  omega (arith, (larger s h.extent (extent_is end)).member, h.over),
  w.0
      ∙ turn s go ms i m _ lt e
      ∙ ap (λ o. with_extent o (λ y. members (placing s) go (drop (i + 1) ms) (placing s y (extent_is end)))) h.is,
)
walk_large true s go ms i m end lt e h w = (
  placing s h.extent w.0,
  omega (arith, (larger s h.extent w.0).before, w.1),
  w.2 ∙ turn s go ms i m _ lt e
      ∙ ap (λ o. with_extent o (λ y. members (placing s) go (drop (i + 1) ms) (placing s y w.0))) h.is,
)

-- a member past the end of what fits
pub walk_past : (s : Bool) (go : ℕ → Option Extent) (ms : List Member) (i : ℕ) (m : Member) (end l : Layout) →
    i < length ms → m ≡ get_or ms i m → go m.of ≡ Some (extent_is l) → Walk true (placing s) go ms (drop i ms) end →
    Walk true (placing s) go ms (drop (i + 1) ms) end
walk_past s go ms i m end l lt e h w = (
  placing s (extent_is l) w.0,
  omega (arith, (larger s (extent_is l) w.0).before, w.1),
  w.2 ∙ turn s go ms i m _ lt e
      ∙ ap (λ o. with_extent o (λ y. members (placing s) go (drop (i + 1) ms) (placing s y w.0))) h,
)

-- a member that is placed
pub walk_on : (b s : Bool) (go : ℕ → Option Extent) (ms : List Member) (i : ℕ) (m : Member) (end l next : Layout) →
    i < length ms → m ≡ get_or ms i m → go m.of ≡ Some (extent_is l) →
    extent_is next ≡ placing s (extent_is l) (extent_is end) → 0 < next.align → next.align ≤ greatest_align →
    b ≡ ltb size_limit next.size → Walk false (placing s) go ms (drop i ms) end →
    Walk b (placing s) go ms (drop (i + 1) ms) next
walk_on true s go ms i m end l next lt e h a p q f w = (
  extent_is next,
  ltb-true size_limit next.size (sym f),
  w.0 ∙ turn s go ms i m _ lt e
      ∙ ap (λ o. with_extent o (λ y. members (placing s) go (drop (i + 1) ms) (placing s y (extent_is end)))) h
      ∙ ap (members (placing s) go (drop (i + 1) ms)) (sym a),
)
walk_on false s go ms i m end l next lt e h a p q f w = (
  w.0 ∙ turn s go ms i m _ lt e
      ∙ ap (λ o. with_extent o (λ y. members (placing s) go (drop (i + 1) ms) (placing s y (extent_is end)))) h
      ∙ ap (members (placing s) go (drop (i + 1) ms)) (sym a),
  ltb-false size_limit next.size (sym f),
  p,
  q,
)

pub walk_end : (s : Bool) (go : ℕ → Option Extent) (ms : List Member) (i : ℕ) (end : Layout) → length ms ≤ i →
    Walk false (placing s) go ms (drop i ms) end → Fits (members (placing s) go ms no_members) end
unfolding members
walk_end s go ms i end le w =
    let d : drop i ms ≡ [] = drop_of_length-le ms le in
    record { is = w.0 ∙ ap (λ r. members (placing s) go r (extent_is end)) d; size = w.1; positive = w.2; align = w.3 }

pub walk_over : (s : Bool) (go : ℕ → Option Extent) (ms : List Member) (i : ℕ) (end : Layout) → length ms ≤ i →
    Walk true (placing s) go ms (drop i ms) end → Exceeds (members (placing s) go ms no_members)
unfolding members
walk_over s go ms i end le w =
    let d : drop i ms ≡ [] = drop_of_length-le ms le in
    record { extent = w.0; is = w.2 ∙ ap (λ r. members (placing s) go r w.0) d; over = w.1 }

pub walk_at : (b d s : Bool) (go : ℕ → Option Extent) (ms rest : List Member) (e f : Layout) → b ≡ d → e ≡ f →
    Walk d (placing s) go ms rest f → Walk b (placing s) go ms rest e
walk_at b d s go ms rest e f g h w =
    subst (λ x. Walk x (placing s) go ms rest e) (sym g)
    (subst (λ (y : Layout). Walk d (placing s) go ms rest y) (sym h) w)

pub item : (ms : List Member) (i : ℕ) (d : Member) → i < length ms → get_or ms i d ≡ get_or ms i (get_or ms i d)
item ms i d lt = get_or_default ms i d (get_or ms i d) lt

pub fault_at : (o : Option Extent) (f g : LayoutFault) → f ≡ g → IsLayout o (Err f) → IsLayout o (Err g)
fault_at o f g e h = subst (λ x. IsLayout o (Err x)) e h
