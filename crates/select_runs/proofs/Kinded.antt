-- Temps stay of their kinds.
use Rattle.std.proofs.Common.{◌≡◌, ℕ, zero, suc, ◌^◌, ◌<◌, true, false, List, [], ◌∷◌, length, Option, Some, refl, sym}
use Rattle.std.proofs.Common.{ap, ◌∙◌, subst, arith, inl, inr}
use Rattle.std.specs.Prelude.{slice_get, slice_set}
use Rattle.std.proofs.lemmas.Bool.{and_parts, eqb-true, eq-eqb, ltb-true, cases_eq}
use Rattle.std.proofs.lemmas.List.{length-set}
use Rattle.std.proofs.lemmas.Option.{same_Some}
use Rattle.ck_int.specs.declared.kinds.IntKind.{IntKind}
use Rattle.ck_int.specs.declared.kinds.IntKind.TheVariants as int
use Rattle.cap_ops.specs.Capability.{moved, null_at}
use Rattle.c_tree.specs.declared.typed.FunDef.{FunDef}
use Rattle.c_tree.specs.declared.typed.Typed.{Typed}
use Rattle.obj_mem.specs.Objects.{Shape, base_in}
use Rattle.obj_mem.specs.Standing.{IsSpread}
use Rattle.obj_mem.specs.Values.{Value, Raw, Addresses, capability_of}
use Rattle.cheri_c_sem.specs.Compatible.{kind_number}
use Rattle.cheri_c_sem.specs.Kinds.{Kind, Plain, Capability}
use Rattle.tac_ir.specs.Effects.{held, kind_at}
use Rattle.tac_ir.specs.WellFormed.{same_kind, has, is_temp}
use Rattle.tac_ir.specs.declared.code.TacInstr.{TacInstr}
use Rattle.tac_ir.specs.declared.code.TacKind.{TacKind}
use Rattle.place_inject.proofs.Pointing.{pointers_fit_law}
use Rattle.select_runs.specs.Kinds.{IsOfKind, AreOfKinds}

kind_by : ℕ → IntKind
kind_by zero = int.Bool
kind_by (suc zero) = int.I8
kind_by (suc (suc zero)) = int.U8
kind_by (suc (suc (suc zero))) = int.I16
kind_by (suc (suc (suc (suc zero)))) = int.U16
kind_by (suc (suc (suc (suc (suc zero))))) = int.I32
kind_by (suc (suc (suc (suc (suc (suc zero)))))) = int.U32
kind_by (suc (suc (suc (suc (suc (suc (suc zero))))))) = int.I64
kind_by n = int.U64

kind_again : (k : IntKind) → kind_by (kind_number k) ≡ k
unfolding kind_by
kind_again int.Bool = refl
kind_again int.I8 = refl
kind_again int.U8 = refl
kind_again int.I16 = refl
kind_again int.U16 = refl
kind_again int.I32 = refl
kind_again int.U32 = refl
kind_again int.I64 = refl
kind_again int.U64 = refl

pub same_turned : (a b : Kind) → same_kind a b ≡ true → same_kind b a ≡ true
same_turned (Plain j) (Plain k) h = eq-eqb (kind_number k) (kind_number j) (sym (eqb-true (kind_number j)
    (kind_number k) h))
same_turned (Capability true) (Capability true) h = refl
same_turned (Capability false) (Capability false) h = refl
same_turned (Capability true) (Capability false) h = cc
same_turned (Capability false) (Capability true) h = cc
same_turned (Plain j) (Capability s) h = cc
same_turned (Capability s) (Plain k) h = cc

-- a value of a kind is one of the same kind
pub kind_passes : (a b : Kind) (v : Value) → same_kind a b ≡ true → IsOfKind b v → IsOfKind a v
kind_passes (Plain j) (Plain k) v h o =
    let e : j ≡ k = sym (kind_again j) ∙ ap kind_by (eqb-true (kind_number j) (kind_number k) h) ∙ kind_again k in
    subst (λ i. IsOfKind (Plain i) v) (sym e) o
kind_passes (Capability s) (Capability s') v h o = o
kind_passes (Plain j) (Capability s) v h o = cc
kind_passes (Capability s) (Plain k) v h o = cc

got_same : {A : Type 0} (xs : List A) (k : ℕ) (v : A) → k < length xs → slice_get (slice_set xs k v) k ≡ Some v
got_same [] k v h = absurd (omega arith)
got_same (x ∷ xs) zero v h = refl
got_same (x ∷ xs) (suc k) v h = got_same xs k v (omega arith)

got_other : {A : Type 0} (xs : List A) (k j : ℕ) (v : A) → (j ≡ k → ⊥) → slice_get (slice_set xs k v) j ≡ slice_get xs j
got_other [] k j v h = refl
got_other (x ∷ xs) zero zero v h = absurd (h refl)
got_other (x ∷ xs) zero (suc j) v h = refl
got_other (x ∷ xs) (suc k) zero v h = refl
got_other (x ∷ xs) (suc k) (suc j) v h = got_other xs k j v (λ e. h (ap suc e))

given_by : (o : Option (Option Value)) (v : Value) → o ≡ Some (Some v) → o ≡ Some (Some (held o))
given_by o v e = e ∙ sym (ap (λ q. Some (Some (held q))) e)

-- to set a place to what it has changes nothing
pub set_to_itself : {A : Type 0} (xs : List A) (k : ℕ) (v : A) → slice_get xs k ≡ Some v → slice_set xs k v ≡ xs
set_to_itself [] k v h = refl
set_to_itself (x ∷ xs) zero v h = ap (λ y. y ∷ xs) (sym (same_Some x v h))
set_to_itself (x ∷ xs) (suc k) v h = ap (λ ys. x ∷ ys) (set_to_itself xs k v h)

-- a temp gets a value of its kind
pub kinded_set : (kinds : List TacKind) (vars : List (Option Value)) (to : ℕ) (v : Value) → AreOfKinds kinds vars
    → to < length kinds → IsOfKind (kind_at kinds to) v → AreOfKinds kinds (slice_set vars to (Some v))
kinded_set kinds vars to v h below own =
    let long = h.one_each in
    record {
      one_each = length-set vars to (Some v) ∙ long;
      given = λ t l. elim (cases_eq t to) as (λ _. slice_get (slice_set vars to (Some v)) t ≡ Some (Some (held
          (slice_get (slice_set vars to (Some v)) t)))) [
            | inl e ↦ given_by (slice_get (slice_set vars to (Some v)) t) v
                (ap (slice_get (slice_set vars to (Some v))) e ∙ got_same vars to (Some v) (omega arith))
            | inr ne ↦ given_by (slice_get (slice_set vars to (Some v)) t) (held (slice_get vars t))
                (got_other vars to t (Some v) ne ∙ h.given t l)
          ];
      each = λ t l. elim (cases_eq t to) as (λ _. IsOfKind (kind_at kinds t) (held (slice_get (slice_set vars to
          (Some v)) t))) [
            | inl e ↦ subst (λ i. IsOfKind (kind_at kinds i) (held (slice_get (slice_set vars to (Some v)) i))) (sym e)
                (subst (λ o. IsOfKind (kind_at kinds to) (held o)) (sym (got_same vars to (Some v) (omega arith))) own)
            | inr ne ↦ subst (λ o. IsOfKind (kind_at kinds t) (held o)) (sym (got_other vars to t (Some v) ne))
                (h.each t l)
          ];
    }

-- what the test of a temp says
pub has_kind : (p : Typed) (d : FunDef) (kinds : List TacKind) (code : List TacInstr) (t : ℕ) (k : Kind)
    → has p d kinds code t k ≡ true → (t < length kinds) × (same_kind (kind_at kinds t) k ≡ true)
has_kind p d kinds code t k h =
    let parts = and_parts (is_temp p d kinds code t) (same_kind (kind_at kinds t) k) h in
    (ltb-true t (length kinds) parts.0, parts.1)

-- null with an address, as a value and as a capability
pub raw_null : (functions : ℕ) (a : Addresses) (shapes : List Shape) → IsSpread shapes functions a → (n : ℕ)
    → n < 2 ^ 64
    → capability_of a (base_in shapes) (Raw n 0) ≡ null_at n
unfolding moved null_at capability_of
raw_null functions a shapes spread n small =
    sym ((pointers_fit_law functions a shapes spread (Raw 0 0) refl (omega arith, omega arith)).sets n small).2
