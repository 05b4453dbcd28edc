-- A member of a properly aligned struct has exact bounds.
use Rattle.std.proofs.Common.{◌≡◌, ℕ, zero, suc, ◌+◌, ◌-◌, ◌*◌, ◌/◌, ◌%◌, ◌^◌, ◌<◌, ◌≤◌, ◌==◌, ◌&&◌, true}
use Rattle.std.proofs.Common.{List, [], ◌∷◌, length, Option, Some, None, Ok, refl, sym, ap, ◌∙◌, subst, arith}
use Rattle.std.specs.Prelude.{slice_get}
use Rattle.std.proofs.lemmas.Bool.Decides.{nat_tests}
use Rattle.std.proofs.lemmas.Nat.{div-add-mod'}
use Rattle.std.proofs.Math.Nat.{mul-mod_left}
use Rattle.cap_concentrate.specs.Rounding.{rounded_up, alignment, owned, least_base, least_top}
use Rattle.cap_concentrate.proofs.Least.{rounded_up_ge}
use Rattle.cap_concentrate.proofs.Owned.{alignment_pos, owned_exact, multiple_of_alignment}
use Rattle.c_tree.specs.Layout.{Extent, with_extent, member_align, member_offset, behind, beside, no_members, members}
use Rattle.c_tree.specs.Layout.{whole, extent_of, extent_within, extent, struct_offset, union_offset, bare_of}
use Rattle.c_tree.specs.Layout.{bare_within, bare, members_of, offset_of_member}
use Rattle.c_tree.specs.declared.typed.CType.{CType}
use Rattle.c_tree.specs.declared.typed.CType.TheVariants.{Void, Int, Cap, Pointer, Array, Struct, Union, Function}
use Rattle.c_tree.specs.declared.typed.CType.TheVariants.{Const, Incomplete}
use Rattle.c_tree.specs.declared.typed.Member.{Member}
use Rattle.c_tree.proofs.Aligned.{IsPower, max_power, alignment_is_power, extent_aligned}
use Rattle.c_tree.proofs.Depth.{members-more, depth_enough}
use Rattle.obj_mem.specs.Objects.{base_in}
use Rattle.obj_mem.specs.Pointers.{narrowed_to}
use Rattle.obj_mem.specs.Values.{Addresses, Live}
use Rattle.obj_mem.proofs.Moves.{is_le}
use Rattle.placed_objects.specs.Members.{IsMember, MembersAreExact}

abbrev Look : Type 0
Look = ℕ → Option Extent

some_of : {A : Type 0} (o : Option Extent) (f : Extent → Option A) (y : A) → with_extent o f ≡ Some y
    → (x : Extent) × (o ≡ Some x) × (f x ≡ Some y)
some_of None f y e = absurd cc
some_of (Some x) f y e = (x, refl, e)

by_known : {A : Type 0} (o : Option Extent) (f : Extent → Option A) (x : Extent) (y : A) → o ≡ Some x
    → with_extent o f ≡ Some y → f x ≡ Some y
by_known o f x y k e = let s = some_of o f y e in
    let q : s.0 ≡ x = let a = s.1 in cc in subst (λ z. f z ≡ Some y) q s.2

-- ---- members lie in their struct, at multiples of their alignment

-- a part that owns its bytes at an offset of what ends there so far
record IsInside (own : Extent) (at : ℕ) (end : Extent) : Type 0 where
  to : at + owned own.size ≤ end.size
  align : alignment own.size ≤ end.align
  multiple : at % alignment own.size ≡ 0

record Grows (x y : Extent) : Type 0 where
  size : x.size ≤ y.size
  align : x.align ≤ y.align

align_some : (m : Extent) → 0 < member_align m
align_some m = let p = alignment_pos m.size in omega (arith, p)

behind_grows : (m x : Extent) → Grows x (behind m x)
behind_grows m x =
    let u = rounded_up_ge x.size (member_align m) (align_some m) in
    record { size = omega (arith, u); align = omega arith }

beside_grows : (m x : Extent) → Grows x (beside m x)
beside_grows m x = record { size = omega arith; align = omega arith }

grown : (place : Extent → Extent → Extent) → ((m x : Extent) → Grows x (place m x)) → (go : Look) (ms : List Member)
    (x y : Extent) → members place go ms x ≡ Some y → Grows x y
unfolding members
grown place g go [] x y e = let q : x ≡ y = cc in subst (Grows x) q (record { size = omega arith; align = omega arith })
grown place g go (m ∷ ms) x y e =
    let s = some_of (go m.of) (λ z. members place go ms (place z x)) y e in
    let a = g s.0 x in
    let b = grown place g go ms (place s.0 x) y s.2 in
    let first = a.size in
    let second = b.size in
    let third = a.align in
    let fourth = b.align in
    record { size = omega (arith, first, second); align = omega (arith, third, fourth) }

later : (own : Extent) (at : ℕ) (x y : Extent) → IsInside own at x → Grows x y → IsInside own at y
later own at x y i g =
    let to = i.to in
    let al = i.align in
    let gs = g.size in
    let ga = g.align in
    record { to = omega (arith, to, gs); align = omega (arith, al, ga); multiple = i.multiple }

aligned_offset : (own before : Extent) → IsPower own.align → member_offset own before % alignment own.size ≡ 0
aligned_offset own before p =
    let m = max_power own.align (alignment own.size) p (alignment_is_power own.size) in
    let is : member_align own ≡ 2 ^ m.0 = m.1 in
    let z : member_offset own before % member_align own ≡ 0 =
    mul-mod_left ((before.size + (member_align own - 1)) / member_align own) (member_align own) in
    multiple_of_alignment own.size (member_offset own before) m.0 (omega (arith, is))
    (subst (λ v. member_offset own before % v ≡ 0) is z)

behind_inside : (own before : Extent) → IsPower own.align → IsInside own (member_offset own before) (behind own before)
behind_inside own before p =
    record { to = omega arith; align = omega arith; multiple = aligned_offset own before p }

beside_inside : (own before : Extent) → IsInside own 0 (beside own before)
beside_inside own before = record { to = omega arith; align = omega arith; multiple = omega arith }

in_struct : (go : Look) (ms : List Member) (k at : ℕ) (x y : Extent) (m : Member) (own : Extent) → IsPower own.align
    → slice_get ms k ≡ Some m → go m.of ≡ Some own → struct_offset go ms k x ≡ Some at → members behind go ms x ≡ Some y
    → IsInside own at y
unfolding members struct_offset
in_struct go [] k at x y m own p e o s h = absurd cc
in_struct go (n ∷ ms) zero at x y m own p e o s h =
    let q : n ≡ m = cc in
    let here : go n.of ≡ Some own = subst (λ z. go z.of ≡ Some own) (sym q) o in
    let f : Some (member_offset own x) ≡ Some at =
    by_known (go n.of) (λ z. Some (member_offset z x)) own at here s in
    let is : member_offset own x ≡ at = cc in
    let rest = by_known (go n.of) (λ z. members behind go ms (behind z x)) own y here h in
    subst (λ v. IsInside own v y) is
    (later own (member_offset own x) (behind own x) y (behind_inside own x p)
    (grown behind behind_grows go ms (behind own x) y rest))
in_struct go (n ∷ ms) (suc k) at x y m own p e o s h =
    let r = some_of (go n.of) (λ z. members behind go ms (behind z x)) y h in
    let t = by_known (go n.of) (λ z. struct_offset go ms k (behind z x)) r.0 at r.1 s in
    in_struct go ms k at (behind r.0 x) y m own p e o t r.2

in_union : (go : Look) (ms : List Member) (k : ℕ) (x y : Extent) (m : Member) (own : Extent)
    → slice_get ms k ≡ Some m → go m.of ≡ Some own → members beside go ms x ≡ Some y → IsInside own 0 y
unfolding members
in_union go [] k x y m own e o h = absurd cc
in_union go (n ∷ ms) zero x y m own e o h =
    let q : n ≡ m = cc in
    let here : go n.of ≡ Some own = subst (λ z. go z.of ≡ Some own) (sym q) o in
    let rest = by_known (go n.of) (λ z. members beside go ms (beside z x)) own y here h in
    later own 0 (beside own x) y (beside_inside own x) (grown beside beside_grows go ms (beside own x) y rest)
in_union go (n ∷ ms) (suc k) x y m own e o h =
    let r = some_of (go n.of) (λ z. members beside go ms (beside z x)) y h in
    in_union go ms k (beside r.0 x) y m own e o r.2

-- the whole is rounded up
in_whole : (own : Extent) (at : ℕ) (y x : Extent) → IsInside own at y → whole y ≡ Some x → IsInside own at x
in_whole own at y x i e =
    let q : record { size = rounded_up y.size y.align; align = y.align } ≡ x = cc in
    let al = i.align in
    let p = alignment_pos own.size in
    let u = rounded_up_ge y.size y.align (omega (arith, al, p)) in
    subst (IsInside own at) q (later own at y _ i (record { size = u; align = omega arith }))

-- ---- the members of a type

module _ (types : List CType) where
  Holds : (Extent → Extent → Extent) → List Member → Extent → Type 0
  Holds place ms x = (y : Extent) × (members place (extent types) ms no_members ≡ Some y) × (whole y ≡ Some x)

  IsOf : Option CType → Extent → Type 0
  unfolding Holds
  IsOf (Some (Struct tag ms)) x = Holds behind ms x
  IsOf (Some (Union tag ms)) x = Holds beside ms x
  IsOf c x = Unit {0}

  abbrev Level : ℕ → Type 0
  Level d = (t : ℕ) (x : Extent) → extent_within d types t ≡ Some x → IsOf (bare_within d types t) x

  holds : (d : ℕ) (place : Extent → Extent → Extent) (ms : List Member) (x : Extent)
      → with_extent (members place (extent_within d types) ms no_members) whole ≡ Some x → Holds place ms x
  unfolding Holds
  holds d place ms x e =
      let s = some_of (members place (extent_within d types) ms no_members) whole x e in
      (s.0, members-more place (extent_within d types) (extent types) ms no_members s.0 (depth_enough types d) s.1, s.2)

  level : (d : ℕ) → Level d → (c : Option CType) (x : Extent) → extent_of c (extent_within d types) ≡ Some x
      → IsOf (bare_of c (bare_within d types)) x
  unfolding IsOf
  level d h None x e = tt
  level d h (Some Void) x e = tt
  level d h (Some (Int k n)) x e = tt
  level d h (Some (Cap s)) x e = tt
  level d h (Some (Pointer t)) x e = tt
  level d h (Some (Array t n)) x e = tt
  level d h (Some (Struct tag ms)) x e = holds d behind ms x e
  level d h (Some (Union tag ms)) x e = holds d beside ms x e
  level d h (Some (Function t ps)) x e = tt
  level d h (Some (Const t)) x e = h t x e
  level d h (Some (Incomplete tag)) x e = tt

  all_levels : (d : ℕ) → Level d
  unfolding extent_within bare_within
  all_levels zero t x e = absurd cc
  all_levels (suc d) t x e = level d (all_levels d) (slice_get types t) x e

  inside_of : (c : Option CType) (k at : ℕ) (x own : Extent) (m : Member) → IsOf c x → IsPower own.align
      → slice_get (members_of c) k ≡ Some m → extent types m.of ≡ Some own
      → offset_of_member c (extent types) k ≡ Some at → IsInside own at x
  unfolding IsOf Holds
  inside_of (Some (Struct tag ms)) k at x own m h p e o s =
      in_whole own at h.0 x (in_struct (extent types) ms k at no_members h.0 m own p e o s h.1) h.2
  inside_of (Some (Union tag ms)) k at x own m h p e o s =
      let q : Some 0 ≡ Some at = subst (λ z. union_offset z ≡ Some at) e s in
      let z : 0 ≡ at = cc in
      subst (λ v. IsInside own v x) z
      (in_whole own 0 h.0 x (in_union (extent types) ms k no_members h.0 m own e o h.1) h.2)
  inside_of None k at x own m h p e o s = absurd cc
  inside_of (Some Void) k at x own m h p e o s = absurd cc
  inside_of (Some (Int j n)) k at x own m h p e o s = absurd cc
  inside_of (Some (Cap j)) k at x own m h p e o s = absurd cc
  inside_of (Some (Pointer t)) k at x own m h p e o s = absurd cc
  inside_of (Some (Array t n)) k at x own m h p e o s = absurd cc
  inside_of (Some (Function t ps)) k at x own m h p e o s = absurd cc
  inside_of (Some (Const t)) k at x own m h p e o s = absurd cc
  inside_of (Some (Incomplete tag)) k at x own m h p e o s = absurd cc

  inside : (t k at : ℕ) (all own : Extent) → IsMember types t k at all own → IsInside own at all
  inside t k at all own h =
      inside_of (bare types t) k at all own h.member (all_levels (length types) t all h.all_is)
      (extent_aligned (length types) types h.member.of own h.own_is) h.there h.own_is h.begins

-- ---- narrowing

sum_multiple : (a b m : ℕ) → a % m ≡ 0 → b % m ≡ 0 → (a + b) % m ≡ 0
sum_multiple a b m h k =
    let e : a + b ≡ (a / m + b / m) * m = omega (arith, div-add-mod' a m, div-add-mod' b m) in
    ap (λ v. v % m) e ∙ mul-mod_left (a / m + b / m) m

same_both : (b t start end : ℕ) → b ≡ start → t ≡ end → (b == start && t == end) ≡ true
same_both b t start end e f = grind (arith, nat_tests)

as_asked : (a : Addresses) (base : ℕ → ℕ) (o low high at p len b t start : ℕ) → start ≡ base o + at → b ≡ start
    → t ≡ start + len → low ≤ at → at + len ≤ high → start + len ≤ 2 ^ 64
    → narrowed_to a base o low high at p start len b t true ≡ Live o at (at + len) at p
as_asked a base o low high at p len b t start es eb et l h w =
    let x : b - base o ≡ at = omega arith in
    let y : t - base o ≡ at + len = omega arith in
    rw (
      is_le (start + len) (2 ^ 64) w,
      is_le (base o + low) b (omega arith),
      is_le t (base o + high) (omega arith),
      same_both b t start (start + len) eb et,
      x,
      y,
    ) refl

pub members_are_exact_law : MembersAreExact
members_are_exact_law types t k at all own h a shapes o low high offset p al =
    let i = inside types t k at all own h in
    let base = base_in shapes o in
    let to = i.to in
    let from = al.from in
    let into = al.to in
    let within = al.within in
    let power = extent_aligned (length types) types t all h.all_is in
    let is = power.1 in
    let least = i.align in
    let n = owned own.size in
    let struct : (base + offset) % alignment own.size ≡ 0 =
    multiple_of_alignment own.size (base + offset) power.0 (omega (arith, is, least))
    (subst (λ v. (base + offset) % v ≡ 0) is al.multiple) in
    let sums : base + offset + at ≡ base + (offset + at) = omega arith in
    let multiple : (base + (offset + at)) % alignment own.size ≡ 0 =
    subst (λ v. v % alignment own.size ≡ 0) sums
    (sum_multiple (base + offset) at (alignment own.size) struct i.multiple) in
    let exact = owned_exact (base + (offset + at)) own.size (omega (arith, to, into, within)) multiple in
    let here : (base + (offset + at)) % 2 ^ 64 ≡ base + (offset + at) = omega (arith, to, into, within) in
    let start = (base + (offset + at)) % 2 ^ 64 in
    let ask : (least_base start (start + n) ≡ start) × (least_top start (start + n) ≡ start + n) =
    subst (λ x. (least_base x (x + n) ≡ x) × (least_top x (x + n) ≡ x + n)) (sym here) exact in
    ap Ok (as_asked a (base_in shapes) o low high (offset + at) p n (least_base start (start + n))
    (least_top start (start + n)) start here ask.0 ask.1 (omega (arith, from)) (omega (arith, to, into))
    (omega (arith, here, to, into, within)))
