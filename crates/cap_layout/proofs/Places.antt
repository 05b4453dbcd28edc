-- Types behind the words `const`, and where members begin.
use Rattle.std.proofs.Common.{◌≡◌, ℕ, zero, suc, ◌+◌, ◌-◌, ◌<◌, ◌≤◌, Bool, true, false, ltb, List, [], ◌∷◌, length}
use Rattle.std.proofs.Common.{get_or, drop, drop-cons, add-one, Option, Some, None, Result, Ok, Err, refl, sym, ap}
use Rattle.std.proofs.Common.{subst, ◌∙◌, arith}
use Rattle.std.specs.Prelude.{slice_get}
use Rattle.std.proofs.lemmas.Bool.{ltb-true, ltb-false}
use Rattle.std.proofs.lemmas.Option.{none-some, slice_get-get_or, slice_get_past}
use Rattle.cap_concentrate.specs.Rounding.{rounded_up}
use Rattle.c_tree.specs.declared.typed.CType.{CType}
use Rattle.c_tree.specs.declared.typed.CType.TheVariants as ctypes
use Rattle.c_tree.specs.declared.typed.Member.{Member}
use Rattle.c_tree.specs.Layout.{Extent, size_limit, with_extent, member_offset, behind, no_members, members, whole}
use Rattle.c_tree.specs.Layout.{extent_of, extent_within, extent, bare_of, bare_within, bare, struct_offset}
use Rattle.c_tree.specs.Layout.{union_offset, member_at, members_of}
use Rattle.c_tree.proofs.Depth.{members-more, depth_enough}
use Rattle.cap_layout.specs.declared.answers.LayoutFault.{LayoutFault}
use Rattle.cap_layout.specs.declared.answers.LayoutFault.TheVariants.{TooLarge, Incomplete}
use Rattle.cap_layout.specs.declared.records.Record.{Record}
use Rattle.cap_layout.specs.declared.records.Record.TheVariants.{Other}
use Rattle.cap_layout.specs.Answers.{Layout, Fits, IsLayout, IsOffset, extent_is}
use Rattle.cap_layout.specs.Walks.{placing, Shows, HasExtent, IsOneLevel, IsRecord, IsPlace}
use Rattle.cap_layout.proofs.Lengths.{rounded_up_bounds}
use Rattle.cap_layout.proofs.Steps.{larger, members_align}

pub bare_step : (types : List CType) (d t : ℕ) → 0 < d →
    bare_within d types t ≡ bare_of (slice_get types t) (bare_within (d - 1) types)
unfolding bare_within
bare_step types zero t h = absurd (omega arith)
bare_step types (suc d) t h = let e : suc d - 1 ≡ d = omega arith in rw e refl

pub bare_zero : (types : List CType) (d t : ℕ) → d ≤ 0 → bare_within d types t ≡ None
unfolding bare_within
bare_zero types zero t h = refl
bare_zero types (suc d) t h = absurd (omega arith)

pub there : (types : List CType) (t : ℕ) (c : CType) → true ≡ ltb t (length types) → c ≡ get_or types t c →
    slice_get types t ≡ Some c
there types t c lt e = slice_get-get_or types t c (ltb-true t (length types) (sym lt)) ∙ ap Some (sym e)

pub past : (types : List CType) (t : ℕ) → false ≡ ltb t (length types) → slice_get types t ≡ None
past types t lt = slice_get_past types t (ltb-false t (length types) (sym lt))

none_shows : Shows None Other
none_shows = record { members = refl; offset = λ go k. refl; record_is = refl }

pub nothing_there : (types : List CType) (o : Option CType) (x : Option Extent) → o ≡ None → IsRecord types o x Other
nothing_there types o x e = record { shows = subst (λ p. Shows p Other) (sym e) none_shows; depth = 0; extent = tt }

pub found : (types : List CType) (o : Option CType) (x : Option Extent) (c : CType) (r : Record) (d : ℕ) → o ≡ Some c →
    x ≡ extent_of (Some c) (extent_within d types) → IsOneLevel c r → IsRecord types o x r
found types o x c r d e f h =
    record {
      shows = subst (λ p. Shows p r) (sym e) h.shows;
      depth = d;
      extent = subst (λ y. HasExtent r y (extent_within d types)) (sym f) (h.extent (extent_within d types));
    }

-- ---- members

-- members whose end is over the limit before the last
pub members_over : (s : Bool) (go : ℕ → Option Extent) (ms : List Member) (x y : Extent) → size_limit < x.size →
    members (placing s) go ms x ≡ Some y → size_limit < y.size
unfolding members
members_over s go [] x y h e = let f : x ≡ y = cc in subst (λ (z : Extent). size_limit < z.size) f h
members_over s go (m ∷ ms) x y h e =
    elim (go m.of) as (λ o. with_extent o (λ z. members (placing s) go ms (placing s z x)) ≡ Some y →
    size_limit < y.size) [
      | None ↦ λ f. absurd (none-some y f)
      | Some z ↦ λ f. members_over s go ms (placing s z x) y (omega (arith, h, (larger s z x).before)) f
    ] e

next : (ms : List Member) (i : ℕ) (m : Member) → i < length ms → m ≡ get_or ms i m → drop i ms ≡ m ∷ drop (i + 1) ms
next ms i m lt e = rw (add-one, drop-cons ms i m lt) (ap (λ n. n ∷ drop (suc i) ms) (sym e))

pub members_turn : (go : ℕ → Option Extent) (ms : List Member) (i : ℕ) (m : Member) (x : Extent) → i < length ms →
    m ≡ get_or ms i m → members behind go (drop i ms) x
    ≡ with_extent (go m.of) (λ y. members behind go (drop (i + 1) ms) (behind y x))
unfolding members
members_turn go ms i m x lt e = rw (next ms i m lt e) refl

pub offset_here : (go : ℕ → Option Extent) (ms : List Member) (i k : ℕ) (m : Member) (x y : Extent) → i < length ms →
    m ≡ get_or ms i m → go m.of ≡ Some y → k ≡ 0 → struct_offset go (drop i ms) k x ≡ Some (member_offset y x)
unfolding struct_offset
offset_here go ms i k m x y lt e f z =
    rw (next ms i m lt e, z) (ap (λ o. with_extent o (λ w. Some (member_offset w x))) f)

later : (go : ℕ → Option Extent) (ms : List Member) (m : Member) (k : ℕ) (x y : Extent) → go m.of ≡ Some y → 0 < k →
    struct_offset go (m ∷ ms) k x ≡ struct_offset go ms (k - 1) (behind y x)
unfolding struct_offset
later go ms m zero x y f p = absurd (omega arith)
later go ms m (suc k) x y f p =
    let e : suc k - 1 ≡ k = omega arith in
    rw e (ap (λ o. with_extent o (λ w. struct_offset go ms k (behind w x))) f)

pub offset_later : (go : ℕ → Option Extent) (ms : List Member) (i k : ℕ) (m : Member) (x y : Extent) → i < length ms →
    m ≡ get_or ms i m → go m.of ≡ Some y → 0 < k →
    struct_offset go (drop i ms) k x ≡ struct_offset go (drop (i + 1) ms) (k - 1) (behind y x)
offset_later go ms i k m x y lt e f p = rw (next ms i m lt e) (later go (drop (i + 1) ms) m k x y f p)

pub members_later : (go : ℕ → Option Extent) (ms : List Member) (i : ℕ) (m : Member) (x y : Extent) → i < length ms →
    m ≡ get_or ms i m → go m.of ≡ Some y →
    members behind go (drop i ms) x ≡ members behind go (drop (i + 1) ms) (behind y x)
members_later go ms i m x y lt e f =
    members_turn go ms i m x lt e ∙ ap (λ o. with_extent o (λ z. members behind go (drop (i + 1) ms) (behind z x))) f

-- a member's fault is one of the struct
pub place_fault : (go : ℕ → Option Extent) (ms : List Member) (i k : ℕ) (m : Member) (end : Extent) (f : LayoutFault) →
    i < length ms → m ≡ get_or ms i m → members behind go ms no_members ≡ members behind go (drop i ms) end →
    IsLayout (go m.of) (Err f) → IsPlace go ms k (Err f)
place_fault go ms i k m end TooLarge lt e w h = λ x g.
    members_over false go (drop (i + 1) ms) (behind h.extent end) x
    (omega (arith, (larger false h.extent end).member, h.over))
    (sym (w ∙ members_later go ms i m end h.extent lt e h.is) ∙ g)
place_fault go ms i k m end Incomplete lt e w h = λ x g.
    absurd (none-some x (sym (w ∙ members_turn go ms i m end lt e
    ∙ ap (λ o. with_extent o (λ z. members behind go (drop (i + 1) ms) (behind z end))) h) ∙ g))

pub place_over : (go : ℕ → Option Extent) (ms rest : List Member) (k : ℕ) (end : Extent) → size_limit < end.size →
    members behind go ms no_members ≡ members behind go rest end → IsPlace go ms k (Err TooLarge)
place_over go ms rest k end h w = λ x g. members_over false go rest end x h (sym w ∙ g)

-- ---- the offset in a struct that has a layout

whole_is : (o : Option Extent) (y : Extent) → with_extent o whole ≡ Some y →
    (x : Extent) × (o ≡ Some x) × (y.size ≡ rounded_up x.size x.align)
whole_is None y e = absurd (none-some y e)
whole_is (Some x) y e = (x, refl, sym (ap size_of_some e))
  where
    size_of_some : Option Extent → ℕ
    size_of_some None = 0
    size_of_some (Some z) = z.size

-- a struct within the limit has its members within the limit
no_fault : (types : List CType) (ms : List Member) (d : ℕ) (l : Layout) (o : Option Extent) (k : ℕ) (f : LayoutFault) →
    o ≡ with_extent (members behind (extent_within d types) ms no_members) whole → Fits o l →
    IsPlace (extent types) ms k (Err f) → ⊥
no_fault types ms d l o k f e h p =
    let w = whole_is (members behind (extent_within d types) ms no_members) (extent_is l) (sym e ∙ h.is) in
    let a = members_align false (extent_within d types) ms no_members w.0 (omega arith) w.1 in
    let b = rounded_up_bounds w.0.size w.0.align a in
    let over = p w.0 (members-more behind (extent_within d types) (extent types) ms no_members w.0
    (depth_enough types d) w.1) in
    omega (arith, w.2, b.0, h.size, over)

pub struct_answer : (types : List CType) (t k : ℕ) (ms : List Member) (d : ℕ) (l : Layout) (r : Result ℕ LayoutFault) →
    member_at types t k ≡ struct_offset (extent types) ms k no_members →
    extent types t ≡ with_extent (members behind (extent_within d types) ms no_members) whole →
    Fits (extent types t) l → IsPlace (extent types) ms k r → IsOffset (extent types t) (member_at types t k) r
struct_answer types t k ms d l (Ok at) e x h p = (e ∙ p, (l, h))
struct_answer types t k ms d l (Err f) e x h p = absurd (no_fault types ms d l (extent types t) k f x h p)

pub union_place : (ms : List Member) (k : ℕ) → k < length ms → union_offset (slice_get ms k) ≡ Some 0
union_place ms k lt =
    let d : Member = record { name = record { start = 0; end = 0 }; of = 0 } in
    ap union_offset (slice_get-get_or ms k d lt)

pub bare_members : (types : List CType) (t n : ℕ) (ms : List Member) → slice_get types t ≡ Some (ctypes.Struct n ms) →
    0 < length types → members_of (bare types t) ≡ ms
bare_members types t n ms e h =
    ap members_of (bare_step types (length types) t h ∙ ap (λ o. bare_of o (bare_within (length types - 1) types)) e)

-- a member that a struct has, by its number, where the code has looked the struct up
pub has_member : (types list : List CType) (t k n : ℕ) (c : CType) (ms ns : List Member) → list ≡ types →
    true ≡ ltb t (length list) → c ≡ get_or list t c → c ≡ ctypes.Struct n ms → ns ≡ ms → k < length ns →
    k < length (members_of (bare types t))
has_member types list t k n c ms ns l lt e f g h =
    let some : 0 < length list = omega (arith, ltb-true t (length list) (sym lt)) in
    let m = bare_members list t n ms (there list t c lt e ∙ ap Some f) some in
    subst (λ ts. k < length (members_of (bare ts t))) l
    (subst (λ xs. k < length xs) (sym m) (subst (λ xs. k < length xs) g h))
