-- Constants: the numbers that literals, enumeration constants and sizes stand for are kept at their types.
use Rattle.std.proofs.Common.{◌≡◌, ℕ, zero, suc, ◌-◌, ◌*◌, ◌^◌, ◌<◌, ◌≤◌, Bool, true, false, cond, List, [], ◌∷◌}
use Rattle.std.proofs.Common.{Option, Some, None, refl, sym, ap, subst, ◌∙◌, ℤ, pos, negsuc, arith}
use Rattle.std.specs.Prelude.{slice_get, int_le, find, nat_lt, nat_le}
use Rattle.std.proofs.lemmas.Bool.{and_parts, ltb-true, le-leb}
use Rattle.std.proofs.lemmas.Option.{none-some, same_Some}
use Rattle.std.proofs.lemmas.Float.{T_from_true}
use Rattle.ck_base.specs.declared.tokens.Integer.{Integer}
use Rattle.ck_base.specs.Literals as literal
use Rattle.ck_int.specs.declared.kinds.IntKind.{IntKind}
use Rattle.ck_int.specs.declared.kinds.IntKind.TheVariants as kind
use Rattle.ck_int.specs.Kinds.{kept_of, wrapped, Represents, IsKept}
use Rattle.ck_int.proofs.Laws.{reduced-represented, IsKept-wrapped, IsKept-unsigned}
use Rattle.ck_int.proofs.OperationLaws.{IsKept-64}
use Rattle.ck_int.proofs.WordLaws.{kept_of-pos}
use Rattle.c_tree.specs.Layout.{Extent, bytes_of, with_extent, times, size_limit}
use Rattle.c_tree.specs.Types.{Ty, Void, Int, Cap, Pointer, Array, Tagged, Function, Const, bare, is_integer}
use Rattle.c_tree.specs.Scopes.{Part, TagState, State, type_extent, tag_extent, is_complete}
use Rattle.c_tree.specs.Values.{integer_of, integer_type, number_type}
use Rattle.c_tree.specs.Declarators.{in_int}
use Rattle.c_tree.specs.WellTyped.{ConstantFits}
use Rattle.typing_laws.proofs.Facts.{Sized, TypeOk, TagOk}
use Rattle.typing_laws.proofs.Scalars.{complete_is}

-- a number that a kind has is kept as it is
kept_if : (k : IntKind) (z : ℤ) → Represents k z → IsKept k (kept_of z)
unfolding wrapped
kept_if k z h = subst (IsKept k) (ap kept_of (reduced-represented k z h)) (IsKept-wrapped k z)

kept_small : (v : ℕ) → v < 2 ^ 31 → IsKept kind.I32 v
kept_small v h =
    subst (IsKept kind.I32) (kept_of-pos v (omega (arith, h)))
    (kept_if kind.I32 (pos v) (record {
      low = record { le = tt };
      high = record { le = T_from_true (nat_le v (2 ^ 31 - 1)) (le-leb v (2 ^ 31 - 1) (omega (arith, h))) };
    }))

pub enumerator_kept : (z : ℤ) → in_int z ≡ true → IsKept kind.I32 (kept_of z)
enumerator_kept z e =
    let p = and_parts (int_le (negsuc (2 ^ 31 - 1)) z) (int_le z (pos (2 ^ 31 - 1))) e in
    kept_if kind.I32 z (record { low = record { le = T_from_true _ p.0 }; high = record { le = T_from_true _ p.1 } })

pub character_kept : (v : ℕ) → v ≤ 255 → IsKept kind.I32 v
character_kept v h = kept_small v (omega (arith, h))

pub size_kept : (v : ℕ) → v ≤ size_limit → IsKept kind.U64 v
size_kept v h = IsKept-64 kind.U64 v refl (omega (arith, h))

-- ---- integer constants

found_by : {A : Type 0} (p : A → Bool) (b : Bool) (y : A) (r : Option A) (x : A) → p y ≡ b →
    cond b (Some y) r ≡ Some x → ((r ≡ Some x) → p x ≡ true) → p x ≡ true
found_by p true y r x i h f = ap p (sym (same_Some y x h)) ∙ i
found_by p false y r x i h f = f h

found_passes : {A : Type 0} (p : A → Bool) (xs : List A) (x : A) → find p xs ≡ Some x → p x ≡ true
found_passes p [] x e = absurd (none-some x e)
found_passes p (y ∷ ys) x e = found_by p (p y) y (find p ys) x refl e (λ h. found_passes p ys x h)

type_has : (n : Integer) (t : literal.IntegerType) → literal.type_of n ≡ Some t → n.value < literal.limit_of t
unfolding literal.type_of
type_has n t e = ltb-true n.value (literal.limit_of t)
    (and_parts (literal.is_candidate n t) (nat_lt n.value (literal.limit_of t))
    (found_passes (literal.can_have n) literal.integer_types t e)).1

typed_fits : (t : literal.IntegerType) (v : ℕ) → v < literal.limit_of t → ConstantFits (bare (integer_type (Some t))) v
typed_fits literal.Int v h = kept_small v h
typed_fits literal.UnsignedInt v h = IsKept-unsigned kind.U32 v refl h
typed_fits literal.Long v h = IsKept-64 kind.I64 v refl (omega (arith, h))
typed_fits literal.UnsignedLong v h = IsKept-64 kind.U64 v refl h
typed_fits literal.LongLong v h = IsKept-64 kind.I64 v refl (omega (arith, h))
typed_fits literal.UnsignedLongLong v h = IsKept-64 kind.U64 v refl h

typed_integer : (t : literal.IntegerType) → is_integer (integer_type (Some t)) ≡ true
typed_integer literal.Int = refl
typed_integer literal.UnsignedInt = refl
typed_integer literal.Long = refl
typed_integer literal.UnsignedLong = refl
typed_integer literal.LongLong = refl
typed_integer literal.UnsignedLongLong = refl

pub number_fits : (text : List ℕ) (t : literal.IntegerType) → literal.type_of (integer_of text) ≡ Some t →
    ConstantFits (bare (number_type text)) (integer_of text).value × (is_integer (number_type text) ≡ true)
number_fits text t e = rw e (typed_fits t (integer_of text).value (type_has (integer_of text) t e), typed_integer t)

-- ---- sizes

bytes_few : (k : IntKind) → bytes_of k ≤ size_limit
bytes_few kind.Bool = omega arith
bytes_few kind.I8 = omega arith
bytes_few kind.U8 = omega arith
bytes_few kind.I16 = omega arith
bytes_few kind.U16 = omega arith
bytes_few kind.I32 = omega arith
bytes_few kind.U32 = omega arith
bytes_few kind.I64 = omega arith
bytes_few kind.U64 = omega arith

tag_within : (ts : List TagState) → ((k : ℕ) (t : TagState) → slice_get ts k ≡ Some t → TagOk ts k t) →
    (n : ℕ) (o : Option TagState) (x : Extent) → slice_get ts n ≡ o → tag_extent o ≡ Some x → x.size ≤ size_limit
tag_within ts h n None x e g = absurd (none-some x g)
tag_within ts h n (Some t) x e g = go t.members refl
  where
    go : (ms : Option (List Part)) → t.members ≡ ms → x.size ≤ size_limit
    go None i = absurd (none-some x (sym ((h n t e).unknown i) ∙ g))
    go (Some ms) i = let k = (h n t e).known ms i in
        subst (λ (y : Extent). y.size ≤ size_limit) (same_Some k.1 x (sym k.2 ∙ g)) k.4

times_within : (n : ℕ) (o : Option Extent) (y x : Extent) → o ≡ Some y → n * y.size ≤ size_limit →
    with_extent o (times n) ≡ Some x → x.size ≤ size_limit
times_within zero None y x i h e = absurd (none-some x e)
times_within zero (Some z) y x i h e = absurd (none-some x e)
times_within (suc n) None y x i h e = absurd (none-some x e)
times_within (suc n) (Some z) y x i h e =
    subst (λ (w : Extent). w.size ≤ size_limit) (same_Some _ x e)
    (subst (λ (w : Extent). suc n * w.size ≤ size_limit) (sym (same_Some z y i)) h)

-- no type is over the limit
pub extent_within_limit : (ts : List TagState) → ((k : ℕ) (t : TagState) → slice_get ts k ≡ Some t → TagOk ts k t) →
    (t : Ty) (x : Extent) → TypeOk ts t → type_extent ts t ≡ Some x → x.size ≤ size_limit
extent_within_limit ts h Void x k e = absurd (none-some x e)
extent_within_limit ts h (Int i n) x k e = subst (λ (w : Extent). w.size ≤ size_limit) (same_Some _ x e) (bytes_few i)
extent_within_limit ts h (Cap s) x k e = subst (λ (w : Extent). w.size ≤ size_limit) (same_Some _ x e) (omega arith)
extent_within_limit ts h (Pointer t) x k e = subst (λ (w : Extent). w.size ≤ size_limit) (same_Some _ x e) (omega arith)
extent_within_limit ts h (Array t n) x k e = times_within n (type_extent ts t) k.1 x k.2 k.3 e
extent_within_limit ts h (Tagged n) x k e = tag_within ts h n (slice_get ts n) x refl e
extent_within_limit ts h (Function r ps) x k e = absurd (none-some x e)
extent_within_limit ts h (Const t) x k e = extent_within_limit ts h t x k.0 e

pub sized_is : (s : State) → ((k : ℕ) (t : TagState) → slice_get s.tags k ≡ Some t → TagOk s.tags k t) → (t : Ty) →
    TypeOk s.tags t → is_complete s t ≡ true → Sized s.tags t
sized_is s h t k c = let x = complete_is s t c in (x.0, x.1, extent_within_limit s.tags h t x.0 k x.1)
