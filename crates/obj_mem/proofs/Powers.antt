-- Alignments are powers of two, so that a multiple of an object's alignment is one of its length's.
use Rattle.std.proofs.Common.{◌≡◌, ℕ, zero, suc, ◌+◌, ◌-◌, ◌*◌, ◌/◌, ◌%◌, ◌^◌, ◌≤◌, max, Bool, true, false, List, []}
use Rattle.std.proofs.Common.{◌∷◌, length, Option, Some, None, refl, sym, ap, ◌∙◌, arith, subst, inl, inr}
use Rattle.std.specs.Prelude.{slice_get, nat_le, if◌then◌else◌}
use Rattle.std.proofs.lemmas.Bool.{cases_lt}
use Rattle.std.proofs.lemmas.Nat.{pow-add, div-add-mod'}
use Rattle.std.proofs.Math.Nat.{mul-mod_left}
use Rattle.std.proofs.Math.Pow.{pow-lt}
use Rattle.ck_int.specs.declared.kinds.IntKind.{IntKind}
use Rattle.ck_int.specs.declared.kinds.IntKind.TheVariants as kind
use Rattle.cap_concentrate.specs.Rounding.{alignment}
use Rattle.cap_concentrate.proofs.Owned.{alignment_power}
use Rattle.c_tree.specs.declared.typed.CType.{CType}
use Rattle.c_tree.specs.declared.typed.CType.TheVariants as types
use Rattle.c_tree.specs.declared.typed.Member.{Member}
use Rattle.c_tree.specs.Layout.{Extent, size_limit, bytes_of, scalar, with_extent, behind, beside, no_members, members}
use Rattle.c_tree.specs.Layout.{whole, times, extent_of, extent_within, extent}
use Rattle.obj_mem.specs.Legal.{ObjectNeed, alignment_of}
use Rattle.obj_mem.specs.Needs.{need_by, need_of}

pub IsPower : ℕ → Type 0
IsPower n = (k : ℕ) × (n ≡ 2 ^ k)

power_max : (a b : ℕ) → IsPower a → IsPower b → IsPower (max a b)
unfolding IsPower
power_max a b p q = elim (cases_lt a b) as (λ _. (k : ℕ) × (max a b ≡ 2 ^ k)) [
  | inl less ↦ (q.0, let e : max a b ≡ b = omega arith in e ∙ q.1)
  | inr more ↦ (p.0, let e : max a b ≡ a = omega arith in e ∙ p.1)
]

power_alignment : (n : ℕ) → IsPower (alignment n)
unfolding IsPower
power_alignment n = let r = alignment_power n in (r.0, r.2)

pub power_one : IsPower 1
unfolding IsPower
power_one = (0, refl)

power_sixteen : IsPower 16
unfolding IsPower
power_sixteen = (4, refl)

power_bytes : (k : IntKind) → IsPower (bytes_of k)
unfolding IsPower
power_bytes kind.Bool = (0, refl)
power_bytes kind.I8 = (0, refl)
power_bytes kind.U8 = (0, refl)
power_bytes kind.I16 = (1, refl)
power_bytes kind.U16 = (1, refl)
power_bytes kind.I32 = (2, refl)
power_bytes kind.U32 = (2, refl)
power_bytes kind.I64 = (3, refl)
power_bytes kind.U64 = (3, refl)

-- ---- types

abbrev AllPowers : (ℕ → Option Extent) → Type 0
AllPowers go = (t : ℕ) (x : Extent) → go t ≡ Some x → IsPower x.align

abbrev KeepsPower : (Extent → Extent → Extent) → Type 0
KeepsPower place = (x before : Extent) → IsPower x.align → IsPower before.align → IsPower (place x before).align

behind_power : KeepsPower behind
behind_power x before p q =
    power_max before.align (max x.align (alignment x.size)) q
    (power_max x.align (alignment x.size) p (power_alignment x.size))

beside_power : KeepsPower beside
beside_power x before p q =
    power_max before.align (max x.align (alignment x.size)) q
    (power_max x.align (alignment x.size) p (power_alignment x.size))

members_power : (place : Extent → Extent → Extent) → KeepsPower place → (go : ℕ → Option Extent) → AllPowers go →
    (ms : List Member) (before y : Extent) → IsPower before.align → members place go ms before ≡ Some y →
    IsPower y.align
unfolding members
members_power place k go g [] before y p e = let q : before ≡ y = cc in subst (λ x. IsPower x.align) q p
members_power place k go g (m ∷ ms) before y p e =
    by (go m.of) refl e (λ x q. members_power place k go g ms (place x before) y (k x before (g m.of x q) p))
  where
    by : (o : Option Extent) → go m.of ≡ o → with_extent o (λ x. members place go ms (place x before)) ≡ Some y
        → ((x : Extent) → go m.of ≡ Some x → members place go ms (place x before) ≡ Some y → IsPower y.align) →
        IsPower y.align
    by None q e f = absurd cc
    by (Some x) q e f = f x q e

whole_power : (o : Option Extent) (y : Extent) → ((x : Extent) → o ≡ Some x → IsPower x.align) →
    with_extent o whole ≡ Some y → IsPower y.align
whole_power None y f e = absurd cc
whole_power (Some x) y f e =
    let q : (whole x) ≡ Some y = e in let a : x.align ≡ y.align = ap (λ z. align_of z) q in subst IsPower a (f x refl)
  where
    align_of : Option Extent → ℕ
    align_of None = 0
    align_of (Some z) = z.align

times_power : (n : ℕ) (o : Option Extent) (y : Extent) → ((x : Extent) → o ≡ Some x → IsPower x.align) →
    with_extent o (times n) ≡ Some y → IsPower y.align
times_power n None y f e = absurd cc
times_power zero (Some x) y f e = absurd cc
times_power (suc k) (Some x) y f e = let a : x.align ≡ y.align = ap (λ z. align_of z) e in subst IsPower a (f x refl)
  where
    align_of : Option Extent → ℕ
    align_of None = 0
    align_of (Some z) = z.align

scalar_power : (n : ℕ) (y : Extent) → IsPower n → Some (scalar n) ≡ Some y → IsPower y.align
scalar_power n y p e = let q : scalar n ≡ y = cc in subst (λ x. IsPower x.align) q p

one_level : (c : Option CType) (go : ℕ → Option Extent) → AllPowers go → (y : Extent) → extent_of c go ≡ Some y →
    IsPower y.align
one_level None go g y e = absurd cc
one_level (Some types.Void) go g y e = absurd cc
one_level (Some (types.Int k n)) go g y e = scalar_power (bytes_of k) y (power_bytes k) e
one_level (Some (types.Cap s)) go g y e = scalar_power 16 y power_sixteen e
one_level (Some (types.Pointer t)) go g y e = scalar_power 16 y power_sixteen e
one_level (Some (types.Array t n)) go g y e = times_power n (go t) y (g t) e
one_level (Some (types.Struct tag ms)) go g y e =
    whole_power _ y (λ x q. members_power behind behind_power go g ms no_members x power_one q) e
one_level (Some (types.Union tag ms)) go g y e =
    whole_power _ y (λ x q. members_power beside beside_power go g ms no_members x power_one q) e
one_level (Some (types.Function t ps)) go g y e = absurd cc
one_level (Some (types.Const t)) go g y e = g t y e
one_level (Some (types.Incomplete tag)) go g y e = absurd cc

levels : (d : ℕ) (ts : List CType) → AllPowers (extent_within d ts)
unfolding extent_within
levels zero ts t x e = absurd cc
levels (suc d) ts t x e = one_level (slice_get ts t) (extent_within d ts) (levels d ts) x e

pub extent_power : (ts : List CType) (t : ℕ) (x : Extent) → extent ts t ≡ Some x → IsPower x.align
extent_power ts t x e = levels (length ts) ts t x e

-- ---- objects

power_divides : (j k : ℕ) (a : ℕ) → j ≤ k → a % 2 ^ k ≡ 0 → a % 2 ^ j ≡ 0
power_divides j k a h e =
    let is : k ≡ (k - j) + j = omega arith in
    let p : 2 ^ k ≡ 2 ^ (k - j) * 2 ^ j = ap (λ v. 2 ^ v) is ∙ pow-add 2 (k - j) j in
    let q : a ≡ a / 2 ^ k * 2 ^ k = omega (arith, div-add-mod' a (2 ^ k)) in
    let r : a ≡ (a / 2 ^ k * 2 ^ (k - j)) * 2 ^ j = q ∙ ap (λ v. a / 2 ^ k * v) p ∙ omega arith in
    ap (λ v. v % 2 ^ j) r ∙ mul-mod_left (a / 2 ^ k * 2 ^ (k - j)) (2 ^ j)

divides_max : (a b c : ℕ) → IsPower b → IsPower c → a % max b c ≡ 0 → a % c ≡ 0
unfolding IsPower
divides_max a b c p q e = elim (cases_lt b c) as (λ _. a % c ≡ 0) [
  | inl less ↦ let m : max b c ≡ c = omega arith in subst (λ v. a % v ≡ 0) m e
  | inr more ↦
      let m : max b c ≡ 2 ^ p.0 = let x : max b c ≡ b = omega arith in x ∙ p.1 in
      let le : q.0 ≤ p.0 = elim (cases_lt p.0 q.0) as (λ _. q.0 ≤ p.0) [
        | inl below ↦ absurd (omega (arith, pow-lt below, p.1, q.1))
        | inr fine ↦ fine
      ] in
      subst (λ v. a % v ≡ 0) (sym q.1) (power_divides q.0 p.0 a le (subst (λ v. a % v ≡ 0) m e))
]

-- a multiple of the object's alignment is one of its length's
pub length_aligned : (n : ObjectNeed) → IsPower n.align → (base : ℕ) → base % alignment_of n ≡ 0 →
    base % alignment n.length ≡ 0
length_aligned n p base e =
    divides_max base n.align (alignment n.length) p (power_alignment n.length)
    (divides_max base 16 (max n.align (alignment n.length)) power_sixteen
    (power_max n.align (alignment n.length) p (power_alignment n.length)) e)

need_by_power : (ts : List CType) (t permissions : ℕ) (o : Option Extent) → extent ts t ≡ o →
    IsPower (need_by o permissions).align
need_by_power ts t permissions None e = power_one
need_by_power ts t permissions (Some x) e = by (nat_le x.size size_limit)
  where
    choice : Bool → ObjectNeed
    choice b = if b then record { length = x.size; align = x.align; permissions = permissions }
        else record { length = 0; align = 1; permissions = permissions }

    by : (b : Bool) → IsPower (choice b).align
    by true = extent_power ts t x e
    by false = power_one

pub need_power : (ts : List CType) (t permissions : ℕ) → IsPower (need_of ts t permissions).align
need_power ts t permissions = need_by_power ts t permissions (extent ts t) refl
