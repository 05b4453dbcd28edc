-- The locals of a function that are within the limit are locals for which there is a frame.
use Rattle.std.proofs.Common.{◌≡◌, ℕ, zero, suc, ◌+◌, ◌*◌, ◌/◌, ◌%◌, ◌<◌, ◌≤◌, ◌⊎◌, max, Bool, true, false, List, []}
use Rattle.std.proofs.Common.{◌∷◌, length, map, Option, Some, None, refl, sym, ap, ◌∙◌, subst, arith, inl, inr}
use Rattle.std.specs.Prelude.{slice_get, nat_le, nat_lt, sum_by, if◌then◌else◌}
use Rattle.std.specs.List.{All, list_any}
use Rattle.std.proofs.lemmas.Bool.{cases_lt, cases_eq, or_parts}
use Rattle.std.proofs.lemmas.Bool.Decides.{nat_tests}
use Rattle.std.proofs.lemmas.List.{length-map}
use Rattle.std.proofs.lemmas.List.Elements.{All-nil, All-cons}
use Rattle.std.proofs.lemmas.List.Sums.{sum_by-cons}
use Rattle.std.proofs.lemmas.Nat.{div-add-mod'}
use Rattle.std.proofs.lemmas.Option.{none-some}
use Rattle.std.proofs.Math.Nat.{mul-mod_left}
use Rattle.cap_concentrate.specs.Rounding.{alignment, owned}
use Rattle.cap_concentrate.proofs.Least.{rounded_up_multiple}
use Rattle.cap_concentrate.proofs.Owned.{alignment_pos, alignment_short, owned_ge, owned_multiple}
use Rattle.cap_concentrate.proofs.Owned.{multiple_of_alignment}
use Rattle.ck_int.specs.declared.kinds.IntKind.{IntKind}
use Rattle.ck_int.specs.declared.kinds.IntKind.TheVariants as kind
use Rattle.cap_ops.specs.Permissions.{data_permissions}
use Rattle.c_tree.specs.declared.typed.CType.{CType}
use Rattle.c_tree.specs.declared.typed.CType.TheVariants.{Void, Int, Cap, Pointer, Array, Struct, Union, Function}
use Rattle.c_tree.specs.declared.typed.CType.TheVariants.{Const, Incomplete}
use Rattle.c_tree.specs.declared.typed.FunDef.{FunDef}
use Rattle.c_tree.specs.declared.typed.Typed.{Typed}
use Rattle.c_tree.specs.declared.typed.VarDef.{VarDef}
use Rattle.c_tree.specs.Layout.{Extent, size_limit, bytes_of, scalar, with_extent, behind, beside, no_members, members}
use Rattle.c_tree.specs.Layout.{whole, times, extent_of, extent_within, extent}
use Rattle.c_tree.proofs.Aligned.{IsPower, max_power, alignment_is_power, extent_aligned}
use Rattle.obj_mem.specs.Legal.{ObjectNeed, owned_of, alignment_of, room_of}
use Rattle.obj_mem.specs.Needs.{nothing_of, need_by, local_need, local_needs}
use Rattle.bounds_place.specs.Placing.{data_room, locals_exceed, exceeds}
use Rattle.bounds_place.specs.Rows.{owned_need}
use Rattle.purecap_abi.specs.Frames.{IsLocal, AreLocals, room}
use Rattle.typed_build.proofs.Empty.{extent_fills}

-- ---- the size of a type is a multiple of its alignment

abbrev Whole : Option Extent → Type 0
Whole o = (x : Extent) → o ≡ Some x → x.size % x.align ≡ 0

size_in : Option Extent → ℕ
size_in None = 0
size_in (Some x) = x.size % x.align

some_whole : (x : Extent) → x.size % x.align ≡ 0 → Whole (Some x)
unfolding size_in
some_whole x h y e = sym (ap size_in e) ∙ h

none_whole : Whole None
none_whole x e = absurd (none-some x e)

with_whole : (o : Option Extent) (f : Extent → Option Extent) → ((x : Extent) → o ≡ Some x → Whole (f x))
    → Whole (with_extent o f)
with_whole None f h = none_whole
with_whole (Some x) f h = h x refl

times_whole : (n : ℕ) (x : Extent) → x.size % x.align ≡ 0 → Whole (times n x)
times_whole zero x h = none_whole
times_whole (suc n) x h =
    let d : x.size ≡ x.size / x.align * x.align = omega (arith, div-add-mod' x.size x.align) in
    let e : suc n * x.size ≡ suc n * (x.size / x.align) * x.align = ap (λ v. suc n * v) d ∙ omega arith in
    some_whole _ (ap (λ v. v % x.align) e ∙ mul-mod_left (suc n * (x.size / x.align)) x.align)

bytes_whole : (k : IntKind) → bytes_of k % bytes_of k ≡ 0
bytes_whole kind.Bool = refl
bytes_whole kind.I8 = refl
bytes_whole kind.U8 = refl
bytes_whole kind.I16 = refl
bytes_whole kind.U16 = refl
bytes_whole kind.I32 = refl
bytes_whole kind.U32 = refl
bytes_whole kind.I64 = refl
bytes_whole kind.U64 = refl

level_whole : (o : Option CType) (go : ℕ → Option Extent) → ((t : ℕ) → Whole (go t)) → Whole (extent_of o go)
level_whole None go g = none_whole
level_whole (Some Void) go g = none_whole
level_whole (Some (Int k n)) go g = some_whole (scalar (bytes_of k)) (bytes_whole k)
level_whole (Some (Cap s)) go g = some_whole (scalar 16) refl
level_whole (Some (Pointer t)) go g = some_whole (scalar 16) refl
level_whole (Some (Array t n)) go g = with_whole (go t) (times n) (λ x e. times_whole n x (g t x e))
level_whole (Some (Struct tag ms)) go g =
    with_whole (members behind go ms no_members) whole (λ x e. some_whole _ (mul-mod_left _ x.align))
level_whole (Some (Union tag ms)) go g =
    with_whole (members beside go ms no_members) whole (λ x e. some_whole _ (mul-mod_left _ x.align))
level_whole (Some (Function t ps)) go g = none_whole
level_whole (Some (Const t)) go g = g t
level_whole (Some (Incomplete tag)) go g = none_whole

extent_whole : (d : ℕ) (types : List CType) (t : ℕ) → Whole (extent_within d types t)
unfolding extent_within
extent_whole zero types t = none_whole
extent_whole (suc d) types t = level_whole (slice_get types t) (extent_within d types) (extent_whole d types)

-- ---- one local

owned_whole : (n : ℕ) → n % alignment n ≡ 0 → owned n ≡ n
unfolding owned
owned_whole n h = rounded_up_multiple n (alignment n) (alignment_pos n) h

-- the owned length is a multiple of the type's alignment and of its own
owned_aligned : (n a : ℕ) → IsPower a → n % a ≡ 0 → owned n % max a (alignment n) ≡ 0
owned_aligned n a p h =
    elim (cases_lt a (alignment n)) as (λ _. owned n % max a (alignment n) ≡ 0) [
      | inl less ↦
          let m : max a (alignment n) ≡ alignment n = omega arith in
          ap (λ v. owned n % v) m ∙ owned_multiple n
      | inr more ↦
          let m : max a (alignment n) ≡ a = omega arith in
          let d : n % alignment n ≡ 0 =
          multiple_of_alignment n n p.0 (omega (arith, p.1)) (ap (λ v. n % v) (sym p.1) ∙ h) in
          ap (λ v. owned n % v) m ∙ ap (λ v. v % a) (owned_whole n d) ∙ h
    ]

-- an object whose type's alignment is a power of two that divides its length, and at most 16 for no bytes
pub record IsRegular (n : ObjectNeed) : Type 0 where
  pub power : IsPower n.align
  pub whole : n.length % n.align ≡ 0
  pub small : n.length ≡ 0 → n.align ≤ 16

regular_local : (n : ObjectNeed) → IsRegular n → IsLocal (owned_need n)
regular_local n r = record {
  power =
      max_power 16 (max n.align (alignment n.length)) (4, refl)
      (max_power n.align (alignment n.length) r.power (alignment_is_power n.length));
  least = omega arith;
  multiple = λ more.
      let m : alignment_of n ≡ max n.align (alignment n.length) = omega arith in
      ap (λ v. owned_of n % v) m ∙ owned_aligned n.length n.align r.power r.whole;
  some = λ more. by more (cases_eq n.length 0);
}
  where
    by : 16 < alignment_of n → (n.length ≡ 0) ⊎ (n.length ≡ 0 → ⊥) → 0 < owned_of n
    by more (inl none) =
        let a = r.small none in
        let s = alignment_short n.length (omega (arith, none)) in
        absurd (omega (arith, a, s, more))
    by more (inr some) = let g = owned_ge n.length in omega (arith, g, some)

either_regular : (b : Bool) (x y : ObjectNeed) → IsRegular x → IsRegular y → IsRegular (if b then x else y)
either_regular true x y p q = p
either_regular false x y p q = q

nothing_regular : (permissions : ℕ) → IsRegular (nothing_of permissions)
nothing_regular permissions = record { power = (0, refl); whole = refl; small = λ e. omega arith }

need_regular : (types : List CType) (t : ℕ) (o : Option Extent) (permissions : ℕ) → extent types t ≡ o
    → IsRegular (need_by o permissions)
need_regular types t None permissions e = nothing_regular permissions
need_regular types t (Some x) permissions e =
    either_regular (nat_le x.size size_limit) (record { length = x.size; align = x.align; permissions = permissions })
    (nothing_of permissions)
    (record {
      power = extent_aligned (length types) types t x e;
      whole = extent_whole (length types) types t x e;
      small = (extent_fills (length types) types t x e).small;
    })
    (nothing_regular permissions)

pub each_local : (types : List CType) (vs : List VarDef) → All IsLocal (map owned_need (map (local_need types) vs))
each_local types [] = All-nil IsLocal
each_local types (v ∷ vs) =
    All-cons IsLocal (owned_need (local_need types v)) (map owned_need (map (local_need types) vs))
    (regular_local (local_need types v) (need_regular types v.of (extent types v.of) data_permissions refl))
    (each_local types vs)

-- ---- all of a function

sum_room : (ns : List ObjectNeed) → sum_by room (map owned_need ns) ≡ room_of ns
sum_room [] = refl
sum_room (n ∷ ns) =
    sum_by-cons room (owned_need n) (map owned_need ns) ∙ ap (λ v. owned_of n + alignment_of n + v) (sum_room ns)

pub few_needs : (ns : List ObjectNeed) → 16 * length ns ≤ room_of ns
few_needs [] = omega arith
few_needs (n ∷ ns) = omega (arith, few_needs ns)

pub are_locals : (types : List CType) (d : FunDef) → locals_exceed types d ≡ false
    → AreLocals (map owned_need (local_needs types d))
are_locals types d h =
    let ns = local_needs types d in
    let fits : room_of ns ≤ size_limit = grind (arith, nat_tests) in
    record {
      each = each_local types (Rattle.std.specs.List.filter Rattle.obj_mem.specs.Needs.is_object d.vars);
      few = omega (arith, few_needs ns, length-map ns owned_need);
      fit = omega (arith, sum_room ns);
    }

-- ---- of a program that is within its limit

none_of : {A : Type 0} (test : A → Bool) (xs : List A) (k : ℕ) (x : A) → list_any test xs ≡ false
    → slice_get xs k ≡ Some x → test x ≡ false
none_of test [] k x h e = absurd cc
none_of test (y ∷ ys) zero x h e =
    let s : y ≡ x = cc in subst (λ v. test v ≡ false) s (or_parts (test y) (list_any test ys) h).0
none_of test (y ∷ ys) (suc k) x h e = none_of test ys k x (or_parts (test y) (list_any test ys) h).1 e

pub locals_within : (p : Typed) (k : ℕ) (d : FunDef) → exceeds p ≡ false → slice_get p.funs k ≡ Some d
    → locals_exceed p.types d ≡ false
locals_within p k d h e =
    let parts = or_parts (nat_lt size_limit (data_room p)) (list_any (locals_exceed p.types) p.funs) h in
    none_of (locals_exceed p.types) p.funs k d parts.1 e

pub data_within : (p : Typed) → exceeds p ≡ false → data_room p ≤ size_limit
data_within p h =
    let q = (or_parts (nat_lt size_limit (data_room p)) (list_any (locals_exceed p.types) p.funs) h).0 in
    grind (arith, nat_tests)
