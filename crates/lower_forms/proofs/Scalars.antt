-- The kinds of types by their numbers are those of the types as trees.
use Rattle.std.proofs.Common.{◌≡◌, ℕ, zero, suc, ◌<◌, Bool, true, false, length, get_or, Option, Some, None}
use Rattle.std.proofs.Common.{refl, sym, ap, ◌∙◌, arith}
use Rattle.std.specs.Prelude.{slice_get, ◌==◌}
use Rattle.std.proofs.lemmas.Bool.{and_parts, false≢true}
use Rattle.std.proofs.lemmas.Option.{slice_get-get_or}
use Rattle.ck_int.specs.declared.kinds.IntKind.{IntKind}
use Rattle.ck_int.specs.declared.kinds.IntKind.TheVariants as int
use Rattle.c_tree.specs.Layout.{bare, bare_of, bare_within}
use Rattle.c_tree.specs.Types as ty
use Rattle.c_tree.specs.Types.{Ty}
use Rattle.c_tree.specs.Views.{type_from, IsOrdered}
use Rattle.c_tree.specs.WellTyped.{type_in}
use Rattle.c_tree.specs.declared.typed.CType.{CType}
use Rattle.c_tree.specs.declared.typed.CType.TheVariants as types
use Rattle.c_tree.specs.declared.typed.Typed.{Typed}
use Rattle.c_tree.proofs.Forest.{forest_reads}
use Rattle.cheri_c_sem.specs.Kinds.{Kind, Plain, Capability}
use Rattle.cheri_c_sem.specs.Types.{scalar_of}

abbrev pub kind_as : Ty → Option Kind
kind_as (ty.Int k n) = Some (Plain k)
kind_as (ty.Cap s) = Some (Capability s)
kind_as (ty.Pointer t) = Some (Capability false)
kind_as (ty.Const t) = kind_as t
kind_as t = None

module _ (p : Typed) (o : IsOrdered p) where
  kind_within : (d t : ℕ) → t < d → t < length p.types → scalar_of (bare_within d p.types t) ≡ kind_as (type_in p t)
  unfolding bare_within
  kind_within zero t lt there = absurd (omega (arith, lt))
  kind_within (suc d) t lt there =
      let c = get_or p.types t types.Void in
      let h = slice_get-get_or p.types t types.Void there in
      let r = forest_reads type_from ty.Void p.types t c h in
      ap (λ z. scalar_of (bare_of z (bare_within d p.types))) h
      ∙ by c h (λ j. get_or r.seen j ty.Void) r.before
      (λ u l. kind_within d u (omega (arith, lt, l)) (omega (arith, there, l)))
      ∙ ap kind_as (sym r.is)
    where
      by : (c : CType) → slice_get p.types t ≡ Some c → (go : ℕ → Ty) → ((j : ℕ) → j < t → go j ≡ type_in p j) →
          ((u : ℕ) → u < t → scalar_of (bare_within d p.types u) ≡ kind_as (type_in p u)) →
          scalar_of (bare_of (Some c) (bare_within d p.types)) ≡ kind_as (type_from c go)
      by (types.Const u) h go b k = let l = o.types t (types.Const u) h in k u l ∙ ap kind_as (sym (b u l))
      by types.Void h go b k = refl
      by (types.Int j n) h go b k = refl
      by (types.Cap s) h go b k = refl
      by (types.Pointer u) h go b k = refl
      by (types.Array u n) h go b k = refl
      by (types.Struct tag ms) h go b k = refl
      by (types.Union tag ms) h go b k = refl
      by (types.Function u ps) h go b k = refl
      by (types.Incomplete tag) h go b k = refl

  pub kind_is : (t : ℕ) → t < length p.types → scalar_of (bare p.types t) ≡ kind_as (type_in p t)
  kind_is t lt = kind_within (length p.types) t lt lt

-- ---- types that agree

same_int : (j k : IntKind) → ty.same_kind j k ≡ true → j ≡ k
same_int int.Bool int.Bool h = refl
same_int int.I8 int.I8 h = refl
same_int int.U8 int.U8 h = refl
same_int int.I16 int.I16 h = refl
same_int int.U16 int.U16 h = refl
same_int int.I32 int.I32 h = refl
same_int int.U32 int.U32 h = refl
same_int int.I64 int.I64 h = refl
same_int int.U64 int.U64 h = refl
same_int j k h = absurd (false≢true h)

same_sign : (a b : Bool) → ty.same_truth a b ≡ true → a ≡ b
same_sign true b h = sym h
same_sign false false h = refl
same_sign false true h = absurd (false≢true h)

pub agreeing : (lengths : ℕ → ℕ → Bool) (s t : Ty) → ty.agree lengths s t ≡ true → kind_as s ≡ kind_as t
agreeing l ty.Void ty.Void h = refl
agreeing l (ty.Int j m) (ty.Int k n) h =
    ap (λ z. Some (Plain z)) (same_int j k (and_parts (ty.same_kind j k) (m == n) h).0)
agreeing l (ty.Cap a) (ty.Cap b) h = ap (λ z. Some (Capability z)) (same_sign a b h)
agreeing l (ty.Pointer s) (ty.Pointer t) h = refl
agreeing l (ty.Array s m) (ty.Array t n) h = refl
agreeing l (ty.Tagged m) (ty.Tagged n) h = refl
agreeing l (ty.Function r ps) (ty.Function s qs) h = refl
agreeing l (ty.Const s) (ty.Const t) h = agreeing l s t h
agreeing l s t h = absurd (false≢true h)

bare_kind : (t : Ty) → kind_as (ty.bare t) ≡ kind_as t
bare_kind (ty.Const t) = refl
bare_kind t = refl

-- a parameter of a function's type and its variable
pub parameter_kind : (s t : Ty) → ty.compatible s (ty.in_signature t) ≡ true → ty.adjusted t ≡ t → kind_as s ≡ kind_as t
parameter_kind s t h a =
    agreeing _ s (ty.in_signature t) h ∙ ap (λ u. kind_as (ty.bare u)) a ∙ bare_kind t
