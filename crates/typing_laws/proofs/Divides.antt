-- Multiples of powers of two, and the alignments of types over the tags so far.
use Rattle.std.proofs.Common.{◌≡◌, ℕ, zero, suc, ◌+◌, ◌-◌, ◌*◌, ◌^◌, ◌<◌, ◌≤◌, max, List, [], ◌∷◌, Option, Some, None}
use Rattle.std.proofs.Common.{refl, sym, ap, subst, ◌∙◌, inl, inr, arith}
use Rattle.std.specs.Prelude.{slice_get}
use Rattle.std.proofs.lemmas.Bool.{cases_lt}
use Rattle.std.proofs.lemmas.Option.{none-some, same_Some}
use Rattle.std.proofs.lemmas.Nat.{pow-add, pow_pos}
use Rattle.std.proofs.Math.Pow.{pow-lt}
use Rattle.ck_base.specs.declared.positions.Span.{Span}
use Rattle.ck_int.specs.declared.kinds.IntKind.{IntKind}
use Rattle.ck_int.specs.declared.kinds.IntKind.TheVariants as kind
use Rattle.c_tree.specs.declared.syntax.RecordKind.{RecordKind}
use Rattle.c_tree.specs.declared.syntax.RecordKind.TheVariants.{Struct, Union}
use Rattle.c_tree.specs.Layout.{Extent, bytes_of, with_extent, times, member_align, behind, beside, no_members, whole}
use Rattle.c_tree.specs.Types.{Ty, Void, Int, Cap, Pointer, Array, Tagged, Function, Const}
use Rattle.c_tree.specs.Terms.{Tag}
use Rattle.c_tree.specs.Scopes.{TagState, type_extent}
use Rattle.c_tree.specs.TreeLayout.{tree_members, record_level, members_level, tag_level, type_level, tree_extent}
use Rattle.c_tree.proofs.Aligned.{IsPower, max_power, alignment_is_power}
use Rattle.typing_laws.proofs.Extents.{AllTags, type_deep}

abbrev pub Multiple : ℕ → ℕ → Type 0
Multiple n d = (c : ℕ) × (n ≡ c * d)

pub multiple_self : (n : ℕ) → Multiple n n
multiple_self n = (1, omega arith)

pub multiple_zero : (d : ℕ) → Multiple 0 d
multiple_zero d = (0, omega arith)

pub multiple_on : (a b c : ℕ) → Multiple a b → Multiple b c → Multiple a c
multiple_on a b c p q = (p.0 * q.0, p.1 ∙ ap (λ z. p.0 * z) q.1 ∙ omega arith)

pub multiple_sum : (a b d : ℕ) → Multiple a d → Multiple b d → Multiple (a + b) d
multiple_sum a b d p q = (p.0 + q.0, rw (p.1, q.1) (omega arith))

pub multiple_times : (k a d : ℕ) → Multiple a d → Multiple (k * a) d
multiple_times k a d p = (k * p.0, ap (λ z. k * z) p.1 ∙ omega arith)

-- the greater of two powers is a multiple of each
power_multiple : (i j : ℕ) → i ≤ j → Multiple (2 ^ j) (2 ^ i)
power_multiple i j le = let e : j ≡ (j - i) + i = omega arith in (2 ^ (j - i), ap (λ n. 2 ^ n) e ∙ pow-add 2 (j - i) i)

powers_multiple : (a b : ℕ) → IsPower a → IsPower b → a ≤ b → Multiple b a
powers_multiple a b p q le =
    elim (cases_lt q.0 p.0) as (λ _. Multiple b a) [
      | inl lt ↦ absurd (let l : 2 ^ q.0 < 2 ^ p.0 = pow-lt lt in omega (arith, l, p.1, q.1))
      | inr ge ↦ let m = power_multiple p.0 q.0 ge in (m.0, q.1 ∙ m.1 ∙ ap (λ z. m.0 * z) (sym p.1))
    ]

pub max_multiples : (a b : ℕ) → IsPower a → IsPower b → Multiple (max a b) a × Multiple (max a b) b
max_multiples a b p q =
    elim (cases_lt a b) as (λ _. Multiple (max a b) a × Multiple (max a b) b) [
      | inl lt ↦ let e : max a b ≡ b = omega arith in rw e (powers_multiple a b p q (omega arith), multiple_self b)
      | inr ge ↦ let e : max a b ≡ a = omega arith in rw e (multiple_self a, powers_multiple b a q p ge)
    ]

pub power_pos : (n : ℕ) → IsPower n → 0 < n
power_pos n p = subst (λ m. 0 < m) (sym p.1) (pow_pos p.0)

-- ---- extents

-- an alignment is a power of two, and the size a multiple of it
pub record AlignedExtent (x : Extent) : Type 0 where
  pub power : IsPower x.align
  pub size : Multiple x.size x.align

byte_extent : (k : IntKind) → AlignedExtent (record { size = bytes_of k; align = bytes_of k })
byte_extent kind.Bool = record { power = (0, refl); size = multiple_self 1 }
byte_extent kind.I8 = record { power = (0, refl); size = multiple_self 1 }
byte_extent kind.U8 = record { power = (0, refl); size = multiple_self 1 }
byte_extent kind.I16 = record { power = (1, refl); size = multiple_self 2 }
byte_extent kind.U16 = record { power = (1, refl); size = multiple_self 2 }
byte_extent kind.I32 = record { power = (2, refl); size = multiple_self 4 }
byte_extent kind.U32 = record { power = (2, refl); size = multiple_self 4 }
byte_extent kind.I64 = record { power = (3, refl); size = multiple_self 8 }
byte_extent kind.U64 = record { power = (3, refl); size = multiple_self 8 }

cap_extent : AlignedExtent (record { size = 16; align = 16 })
cap_extent = record { power = (4, refl); size = multiple_self 16 }

abbrev Aligns : Option Extent → Type 0
Aligns o = (x : Extent) → o ≡ Some x → AlignedExtent x

some_aligns : (y : Extent) → AlignedExtent y → Aligns (Some y)
some_aligns y h x e = subst AlignedExtent (same_Some y x e) h

none_aligns : Aligns None
none_aligns x e = absurd (none-some x e)

times_aligns : (n : ℕ) (o : Option Extent) → Aligns o → Aligns (with_extent o (times n))
times_aligns n None h x e = absurd (none-some x e)
times_aligns zero (Some y) h x e = absurd (none-some x e)
times_aligns (suc n) (Some y) h x e =
    let a = h y refl in
    some_aligns (record { size = suc n * y.size; align = y.align })
    (record { power = a.power; size = multiple_times (suc n) y.size y.align a.size }) x e

pub member_align_power : (y : Extent) → IsPower y.align → IsPower (member_align y)
member_align_power y p = max_power _ _ p (alignment_is_power y.size)

pub behind_power : (y x : Extent) → IsPower y.align → IsPower x.align → IsPower (behind y x).align
behind_power y x p q = max_power _ _ q (member_align_power y p)

abbrev Powered : Option Extent → Type 0
Powered o = (x : Extent) → o ≡ Some x → IsPower x.align

tree_members_power : (place : Extent → Extent → Extent) →
    ((y x : Extent) → IsPower y.align → IsPower x.align → IsPower (place y x).align) → (go : Ty → Option Extent) →
    ((t : Ty) → Aligns (go t)) → (ms : List (Span × Ty)) (w : Extent) → IsPower w.align →
    Powered (tree_members place go ms w)
tree_members_power place k go h [] w p x e = subst (λ (y : Extent). IsPower y.align) (same_Some w x e) p
tree_members_power place k go h (m ∷ ms) w p x e =
    one (go m.1) (h m.1) (λ y q z g. tree_members_power place k go h ms (place y w) (k y w q p) z g) x e
  where
    one : (o : Option Extent) → Aligns o →
        ((y : Extent) → IsPower y.align → Powered (tree_members place go ms (place y w))) → (x : Extent) →
        with_extent o (λ y. tree_members place go ms (place y w)) ≡ Some x → IsPower x.align
    one None h f x e = absurd (none-some x e)
    one (Some y) h f x e = f y (h y refl).power x e

whole_aligns : (o : Option Extent) → Powered o → Aligns (with_extent o whole)
whole_aligns None h x e = absurd (none-some x e)
whole_aligns (Some y) h x e = some_aligns _ (record { power = h y refl; size = (_, refl) }) x e

record_aligns : (k : RecordKind) (go : Ty → Option Extent) → ((t : Ty) → Aligns (go t)) → (ms : List (Span × Ty)) →
    Aligns (record_level k go ms)
record_aligns Struct go h ms =
    whole_aligns (tree_members behind go ms no_members)
    (tree_members_power behind behind_power go h ms no_members (0, refl))
record_aligns Union go h ms =
    whole_aligns (tree_members beside go ms no_members)
    (tree_members_power beside behind_power go h ms no_members (0, refl))

members_aligns : (o : Option (List (Span × Ty))) (k : RecordKind) (go : Ty → Option Extent) →
    ((t : Ty) → Aligns (go t)) → Aligns (members_level o k go)
members_aligns None k go h = none_aligns
members_aligns (Some ms) k go h = record_aligns k go h ms

tag_aligns : (o : Option Tag) (go : Ty → Option Extent) → ((t : Ty) → Aligns (go t)) → Aligns (tag_level o go)
tag_aligns None go h = none_aligns
tag_aligns (Some t) go h = members_aligns t.members t.kind go h

level_aligns : (ts : List Tag) (t : Ty) (go : Ty → Option Extent) → ((t : Ty) → Aligns (go t)) →
    Aligns (type_level ts t go)
level_aligns ts Void go h = none_aligns
level_aligns ts (Int k n) go h = some_aligns _ (byte_extent k)
level_aligns ts (Cap s) go h = some_aligns _ cap_extent
level_aligns ts (Pointer t) go h = some_aligns _ cap_extent
level_aligns ts (Array t n) go h = times_aligns n (go t) (h t)
level_aligns ts (Tagged n) go h = tag_aligns (slice_get ts n) go h
level_aligns ts (Function r ps) go h = none_aligns
level_aligns ts (Const t) go h = h t

tree_aligns : (d : ℕ) (ts : List Tag) (t : Ty) → Aligns (tree_extent d ts t)
unfolding tree_extent
tree_aligns zero ts t = none_aligns
tree_aligns (suc d) ts t = level_aligns ts t (tree_extent d ts) (tree_aligns d ts)

pub extent_aligns : (ts : List TagState) → AllTags ts → (t : Ty) (x : Extent) → type_extent ts t ≡ Some x →
    AlignedExtent x
extent_aligns ts h t x e = let d = type_deep ts h t x e in tree_aligns d.0 _ t x d.1
