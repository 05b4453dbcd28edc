-- Every alignment of a type is a power of two.
use Rattle.std.proofs.Common.{◌≡◌, ℕ, zero, suc, ◌^◌, max, List, [], ◌∷◌, Option, Some, None, refl, sym, ap, subst, inl}
use Rattle.std.proofs.Common.{inr, arith}
use Rattle.std.specs.Prelude.{slice_get}
use Rattle.std.proofs.lemmas.Bool.{cases_lt}
use Rattle.std.proofs.lemmas.Option.{none-some}
use Rattle.cap_concentrate.specs.Rounding.{alignment}
use Rattle.cap_concentrate.proofs.Owned.{alignment_power}
use Rattle.ck_int.specs.declared.kinds.IntKind.{IntKind}
use Rattle.ck_int.specs.declared.kinds.IntKind.TheVariants as kind
use Rattle.c_tree.specs.declared.typed.CType.{CType}
use Rattle.c_tree.specs.declared.typed.CType.TheVariants.{Void, Int, Cap, Pointer, Array, Struct, Union, Function}
use Rattle.c_tree.specs.declared.typed.CType.TheVariants.{Const, Incomplete}
use Rattle.c_tree.specs.declared.typed.Member.{Member}
use Rattle.c_tree.specs.Layout.{Extent, bytes_of, scalar, with_extent, behind, beside, no_members, members, whole}
use Rattle.c_tree.specs.Layout.{times, extent_of, extent_within}

abbrev pub IsPower : ℕ → Type 0
IsPower n = (k : ℕ) × (n ≡ 2 ^ k)

pub max_power : (m n : ℕ) → IsPower m → IsPower n → IsPower (max m n)
max_power m n p q =
    elim (cases_lt m n) as (λ _. IsPower (max m n)) [
      | inl lt ↦ let e : max m n ≡ n = omega arith in subst IsPower (sym e) q
      | inr le ↦ let e : max m n ≡ m = omega arith in subst IsPower (sym e) p
    ]

pub alignment_is_power : (n : ℕ) → IsPower (alignment n)
alignment_is_power n = let p = alignment_power n in (p.0, p.2)

bytes_power : (k : IntKind) → IsPower (bytes_of k)
bytes_power kind.Bool = (0, refl)
bytes_power kind.I8 = (0, refl)
bytes_power kind.U8 = (0, refl)
bytes_power kind.I16 = (1, refl)
bytes_power kind.U16 = (1, refl)
bytes_power kind.I32 = (2, refl)
bytes_power kind.U32 = (2, refl)
bytes_power kind.I64 = (3, refl)
bytes_power kind.U64 = (3, refl)

-- an extent, if there is one, has such an alignment
abbrev Powered : Option Extent → Type 0
Powered o = (y : Extent) → o ≡ Some y → IsPower y.align

align_or : Option Extent → ℕ
align_or None = 1
align_or (Some x) = x.align

some_powered : (x : Extent) → IsPower x.align → Powered (Some x)
unfolding align_or
some_powered x p y e = subst IsPower (ap align_or e) p

none_powered : Powered None
none_powered y e = absurd (none-some y e)

with_powered : (o : Option Extent) (f : Extent → Option Extent) → Powered o →
    ((x : Extent) → IsPower x.align → Powered (f x)) → Powered (with_extent o f)
with_powered None f p g = none_powered
with_powered (Some x) f p g = g x (p x refl)

-- a place for a member keeps it so
abbrev Keeps : (Extent → Extent → Extent) → Type 0
Keeps place = (m x : Extent) → IsPower m.align → IsPower x.align → IsPower (place m x).align

placed_power : (m x : Extent) → IsPower m.align → IsPower x.align →
    IsPower (max x.align (max m.align (alignment m.size)))
placed_power m x p q = max_power _ _ q (max_power _ _ p (alignment_is_power m.size))

members_powered : (place : Extent → Extent → Extent) (go : ℕ → Option Extent) (ms : List Member) (x : Extent) →
    Keeps place → ((t : ℕ) → Powered (go t)) → IsPower x.align → Powered (members place go ms x)
unfolding members
members_powered place go [] x k g p = some_powered x p
members_powered place go (m ∷ ms) x k g p =
    with_powered (go m.of) (λ y. members place go ms (place y x)) (g m.of)
    (λ y q. members_powered place go ms (place y x) k g (k y x q p))

times_powered : (n : ℕ) (x : Extent) → IsPower x.align → Powered (times n x)
times_powered zero x p = none_powered
times_powered (suc n) x p = some_powered _ p

whole_powered : (x : Extent) → IsPower x.align → Powered (whole x)
whole_powered x p = some_powered _ p

of_powered : (o : Option CType) (go : ℕ → Option Extent) → ((t : ℕ) → Powered (go t)) → Powered (extent_of o go)
of_powered None go g = none_powered
of_powered (Some Void) go g = none_powered
of_powered (Some (Int k n)) go g = some_powered (scalar (bytes_of k)) (bytes_power k)
of_powered (Some (Cap s)) go g = some_powered (scalar 16) (4, refl)
of_powered (Some (Pointer t)) go g = some_powered (scalar 16) (4, refl)
of_powered (Some (Array t n)) go g = with_powered (go t) (times n) (g t) (times_powered n)
of_powered (Some (Struct tag ms)) go g =
    with_powered (members behind go ms no_members) whole
    (members_powered behind go ms no_members placed_power g (0, refl)) whole_powered
of_powered (Some (Union tag ms)) go g =
    with_powered (members beside go ms no_members) whole
    (members_powered beside go ms no_members placed_power g (0, refl)) whole_powered
of_powered (Some (Function t ps)) go g = none_powered
of_powered (Some (Const t)) go g = g t
of_powered (Some (Incomplete tag)) go g = none_powered

pub extent_aligned : (d : ℕ) (types : List CType) (t : ℕ) (x : Extent) → extent_within d types t ≡ Some x →
    IsPower x.align
unfolding extent_within
extent_aligned zero types t = none_powered
extent_aligned (suc d) types t = of_powered (slice_get types t) (extent_within d types) (extent_aligned d types)
