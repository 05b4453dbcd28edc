-- A type of no bytes has no alignment above 16.
use Rattle.std.proofs.Common.{◌≡◌, ℕ, zero, suc, ◌+◌, ◌*◌, ◌<◌, ◌≤◌, max, List, [], ◌∷◌, length, Option, Some, None}
use Rattle.std.proofs.Common.{refl, ap, subst, arith, inl, inr}
use Rattle.std.specs.Prelude.{slice_get}
use Rattle.std.proofs.lemmas.Option.{none-some}
use Rattle.cap_concentrate.specs.Rounding.{alignment, owned, rounded_up}
use Rattle.cap_concentrate.proofs.Least.{rounded_up_ge}
use Rattle.cap_concentrate.proofs.Owned.{alignment_pos, alignment_short, owned_ge}
use Rattle.ck_int.specs.declared.kinds.IntKind.{IntKind}
use Rattle.ck_int.specs.declared.kinds.IntKind.TheVariants as kind
use Rattle.c_tree.specs.declared.typed.CType.{CType}
use Rattle.c_tree.specs.declared.typed.CType.TheVariants.{Void, Int, Cap, Pointer, Array, Struct, Union, Function}
use Rattle.c_tree.specs.declared.typed.CType.TheVariants.{Const, Incomplete}
use Rattle.c_tree.specs.declared.typed.Member.{Member}
use Rattle.c_tree.specs.Layout.{Extent, bytes_of, scalar, with_extent, member_align, behind, beside, no_members}
use Rattle.c_tree.specs.Layout.{members, whole, times, extent_of, extent_within}

pub record Fills (x : Extent) : Type 0 where
  pub some : 0 < x.align
  pub small : x.size ≡ 0 → x.align ≤ 16

-- an extent, if there is one, does so
abbrev Filled : Option Extent → Type 0
Filled o = (y : Extent) → o ≡ Some y → Fills y

extent_or : Option Extent → Extent
extent_or None = no_members
extent_or (Some x) = x

some_filled : (x : Extent) → Fills x → Filled (Some x)
unfolding extent_or
some_filled x p y e = subst Fills (ap extent_or e) p

none_filled : Filled None
none_filled y e = absurd (none-some y e)

with_filled : (o : Option Extent) (f : Extent → Option Extent) → Filled o → ((x : Extent) → Fills x → Filled (f x))
    → Filled (with_extent o f)
with_filled None f p g = none_filled
with_filled (Some x) f p g = g x (p x refl)

-- a member of no bytes has a small alignment as one
member_fills : (m : Extent) → Fills m → m.size ≡ 0 → member_align m ≤ 16
member_fills m f e =
    let a = f.small e in
    let s = alignment_short m.size (omega (arith, e)) in
    omega (arith, a, s)

align_some : (m : Extent) → 0 < member_align m
align_some m = let a = alignment_pos m.size in omega (arith, a)

behind_fills : (m x : Extent) → Fills m → Fills x → Fills (behind m x)
behind_fills m x f g = record {
  some = let z = g.some in omega (arith, z);
  small = λ e.
      let owns = owned_ge m.size in
      let up = rounded_up_ge x.size (member_align m) (align_some m) in
      let empty : m.size ≡ 0 = omega (arith, owns, e) in
      let before : x.size ≡ 0 = omega (arith, up, e) in
      let a = member_fills m f empty in
      let b = g.small before in
      omega (arith, a, b);
}

beside_fills : (m x : Extent) → Fills m → Fills x → Fills (beside m x)
beside_fills m x f g = record {
  some = let z = g.some in omega (arith, z);
  small = λ e.
      let owns = owned_ge m.size in
      let empty : m.size ≡ 0 = omega (arith, owns, e) in
      let before : x.size ≡ 0 = omega (arith, e) in
      let a = member_fills m f empty in
      let b = g.small before in
      omega (arith, a, b);
}

members_filled : (place : Extent → Extent → Extent) (go : ℕ → Option Extent) (ms : List Member) (x : Extent)
    → ((m y : Extent) → Fills m → Fills y → Fills (place m y)) → ((t : ℕ) → Filled (go t)) → Fills x
    → Filled (members place go ms x)
unfolding members
members_filled place go [] x k g p = some_filled x p
members_filled place go (m ∷ ms) x k g p =
    with_filled (go m.of) (λ y. members place go ms (place y x)) (g m.of)
    (λ y q. members_filled place go ms (place y x) k g (k y x q p))

times_filled : (n : ℕ) (x : Extent) → Fills x → Filled (times n x)
times_filled zero x p = none_filled
times_filled (suc n) x p = some_filled _ (record { some = p.some; small = λ e. p.small (none n x.size e) })
  where
    none : (n s : ℕ) → suc n * s ≡ 0 → s ≡ 0
    none n zero e = refl
    none n (suc s) e = let all : suc n * suc s ≡ suc s + n * suc s = omega arith in absurd (omega (arith, all, e))

whole_filled : (x : Extent) → Fills x → Filled (whole x)
whole_filled x p = some_filled _ (record {
  some = p.some;
  small = λ e. p.small (let up = rounded_up_ge x.size x.align p.some in omega (arith, up, e));
})

no_members_fill : Fills no_members
no_members_fill = record { some = omega arith; small = λ e. omega arith }

scalar_fills : (n : ℕ) → 0 < n → Fills (scalar n)
scalar_fills n h = record { some = h; small = λ e. absurd (omega (arith, h, e)) }

bytes_some : (k : IntKind) → 0 < bytes_of k
bytes_some kind.Bool = omega arith
bytes_some kind.I8 = omega arith
bytes_some kind.U8 = omega arith
bytes_some kind.I16 = omega arith
bytes_some kind.U16 = omega arith
bytes_some kind.I32 = omega arith
bytes_some kind.U32 = omega arith
bytes_some kind.I64 = omega arith
bytes_some kind.U64 = omega arith

of_filled : (o : Option CType) (go : ℕ → Option Extent) → ((t : ℕ) → Filled (go t)) → Filled (extent_of o go)
of_filled None go g = none_filled
of_filled (Some Void) go g = none_filled
of_filled (Some (Int k n)) go g = some_filled (scalar (bytes_of k)) (scalar_fills (bytes_of k) (bytes_some k))
of_filled (Some (Cap s)) go g = some_filled (scalar 16) (scalar_fills 16 (omega arith))
of_filled (Some (Pointer t)) go g = some_filled (scalar 16) (scalar_fills 16 (omega arith))
of_filled (Some (Array t n)) go g = with_filled (go t) (times n) (g t) (times_filled n)
of_filled (Some (Struct tag ms)) go g =
    with_filled (members behind go ms no_members) whole
    (members_filled behind go ms no_members behind_fills g no_members_fill) whole_filled
of_filled (Some (Union tag ms)) go g =
    with_filled (members beside go ms no_members) whole
    (members_filled beside go ms no_members beside_fills g no_members_fill) whole_filled
of_filled (Some (Function t ps)) go g = none_filled
of_filled (Some (Const t)) go g = g t
of_filled (Some (Incomplete tag)) go g = none_filled

pub extent_fills : (d : ℕ) (types : List CType) (t : ℕ) (x : Extent) → extent_within d types t ≡ Some x → Fills x
unfolding extent_within
extent_fills zero types t = none_filled
extent_fills (suc d) types t = of_filled (slice_get types t) (extent_within d types) (extent_fills d types)
