-- Temps are of their kinds at the entry of a function, and behind a return.
use Rattle.std.proofs.Common.{pos, ◌≡◌, ℕ, zero, suc, ◌<◌, true, List, [], ◌∷◌, length, map, Option, Some, None, refl}
use Rattle.std.proofs.Common.{ap}
use Rattle.std.proofs.Common.{subst, arith}
use Rattle.std.specs.Prelude.{slice_get}
use Rattle.std.proofs.lemmas.Bool.{and_parts}
use Rattle.ck_int.specs.Kinds.{wrapped, reduced, kept_of}
use Rattle.ck_int.specs.declared.kinds.IntKind.{IntKind}
use Rattle.ck_int.specs.declared.kinds.IntKind.TheVariants as int
use Rattle.c_tree.specs.declared.typed.FunDef.{FunDef}
use Rattle.c_tree.specs.declared.typed.Typed.{Typed}
use Rattle.obj_mem.specs.Values.{Value, Int}
use Rattle.cheri_c_sem.specs.Kinds.{Kind, Plain, number_of, zero_of}
use Rattle.cheri_c_sem.specs.Modes.{Store}
use Rattle.cheri_c_sem.specs.Steps.{State}
use Rattle.tac_ir.specs.Effects.{kind_of, kind_at, held, temp_in}
use Rattle.tac_ir.specs.Meaning.{entry_temps, with_result}
use Rattle.tac_ir.specs.WellFormed.{Signature, same_kind, has, all_have, begins_with, call_fits, result_fits}
use Rattle.tac_ir.specs.WellFormed.{return_fits}
use Rattle.tac_ir.specs.WellFormed.{int_result, return_by}
use Rattle.tac_ir.specs.declared.code.TacInstr.{TacInstr}
use Rattle.tac_ir.specs.declared.code.TacKind.{TacKind}
use Rattle.tac_ir.specs.declared.code.TacKind.TheVariants as kind
use Rattle.select_runs.specs.Calling.{values}
use Rattle.select_runs.specs.Kinds.{IsOfKind, AreOfKinds}
use Rattle.select_runs.specs.Returning.{Gives, value_of}
use Rattle.select_runs.proofs.Kinded.{same_turned, kind_passes, kinded_set, has_kind}
use Rattle.select_whole.specs.Visited.{gives_by}
use Rattle.select_whole.specs.Runs.{Takes}

-- ---- at an entry

one_more : (k : TacKind) (ks : List TacKind) (v : Value) (vs : List (Option Value)) → IsOfKind (kind_of k) v
    → AreOfKinds ks vs → AreOfKinds (k ∷ ks) (Some v ∷ vs)
one_more k ks v vs own h = record { one_each = ap suc h.one_each; given = given; each = each }
  where
    given : (t : ℕ) → t < length (k ∷ ks)
        → slice_get (Some v ∷ vs) t ≡ Some (Some (held (slice_get (Some v ∷ vs) t)))
    given zero l = refl
    given (suc t) l = h.given t (omega (arith, l))

    each : (t : ℕ) → t < length (k ∷ ks) → IsOfKind (kind_at (k ∷ ks) t) (held (slice_get (Some v ∷ vs) t))
    each zero l = own
    each (suc t) l = h.each t (omega (arith, l))

zero_kept : (j : IntKind) → wrapped j (pos 0) ≡ 0
unfolding wrapped reduced kept_of
zero_kept int.Bool = refl
zero_kept int.I8 = refl
zero_kept int.U8 = refl
zero_kept int.I16 = refl
zero_kept int.U16 = refl
zero_kept int.I32 = refl
zero_kept int.U32 = refl
zero_kept int.I64 = refl
zero_kept int.U64 = refl

zero_is : (k : TacKind) → IsOfKind (kind_of k) (zero_of (kind_of k))
zero_is (kind.Int k) = record { kept = zero_kept k }
zero_is (kind.Cap signed) = refl

pub zeros_kinded : (ks : List TacKind) → AreOfKinds ks (entry_temps ks [])
zeros_kinded [] = record {
  one_each = refl;
  given = λ t l. absurd (omega (arith, l));
  each = λ t l. absurd (omega (arith, l));
}
zeros_kinded (k ∷ ks) = one_more k ks (zero_of (kind_of k)) (entry_temps ks []) (zero_is k) (zeros_kinded ks)

abbrev AreOf : List Kind → List Value → Type 0
AreOf [] [] = Unit {0}
AreOf (k ∷ ks) (v ∷ vs) = IsOfKind k v × AreOf ks vs
AreOf ks vs = ⊥

entry_kinded : (kinds : List TacKind) (ks : List Kind) (vs : List Value) → begins_with kinds ks ≡ true → AreOf ks vs
    → AreOfKinds kinds (entry_temps kinds vs)
entry_kinded kinds [] [] b a = zeros_kinded kinds
entry_kinded kinds [] (v ∷ vs) b a = absurd a
entry_kinded kinds (k ∷ ks) [] b a = absurd a
entry_kinded [] (k ∷ ks) (v ∷ vs) b a = cc
entry_kinded (j ∷ js) (k ∷ ks) (v ∷ vs) b a =
    let p = and_parts (same_kind (kind_of j) k) (begins_with js ks) b in
    one_more j js v (entry_temps js vs) (kind_passes (kind_of j) k v p.0 a.0) (entry_kinded js ks vs p.1 a.1)

-- ---- in a function whose temps are of their kinds

module _ (p : Typed) (d : FunDef) (kinds : List TacKind) (code : List TacInstr) (t : State Store)
    (h : AreOfKinds kinds t.vars) where
  of_kind : (temp : ℕ) (k : Kind) → has p d kinds code temp k ≡ true → IsOfKind k (temp_in t temp)
  of_kind temp k e =
      let q = has_kind p d kinds code temp k e in
      kind_passes k (kind_at kinds temp) (temp_in t temp) (same_turned (kind_at kinds temp) k q.1) (h.each temp q.0)

  arguments : (args : List ℕ) (ks : List Kind) → all_have (has p d kinds code) args ks ≡ true
      → AreOf ks (map (temp_in t) args)
  arguments [] [] e = tt
  arguments [] (k ∷ ks) e = cc
  arguments (a ∷ args) [] e = cc
  arguments (a ∷ args) (k ∷ ks) e =
      let q = and_parts (has p d kinds code a k) (all_have (has p d kinds code) args ks) e in
      (of_kind a k q.0, arguments args ks q.1)

  takes : (to : Option ℕ) (o : Option Kind) → result_fits p d kinds code to o ≡ true → Takes kinds to o
  takes None o e = tt
  takes (Some temp) None e = cc
  takes (Some temp) (Some k) e = has_kind p d kinds code temp k e

  integer_is : (k : IntKind) (v : Value) → IsOfKind (Plain k) v → v ≡ Int (number_of v)
  integer_is k (Int n) o = refl
  integer_is k v o = absurd o

  -- a return from a function that gives an int
  abbrev GivesInteger : Option ℕ → Type 0
  GivesInteger v =
      (temp : ℕ) × (v ≡ Some temp) × (value_of t (Some temp) ≡ Int (number_of (value_of t (Some temp))))

  int_returned : (v : Option ℕ) → return_by p d kinds code (Some int_result) v ≡ true → GivesInteger v
  int_returned None e = cc
  int_returned (Some temp) e = (temp, refl, integer_is int.I32 (temp_in t temp) (of_kind temp int_result e))

  pub int_given : (o : Option Signature) (v : Option ℕ) → return_fits p d kinds code o v ≡ true
      → gives_by o ≡ Some int_result → GivesInteger v
  int_given None v e q = cc
  int_given (Some x) v e q = int_returned v (subst (λ z. return_by p d kinds code z v ≡ true) q e)

  module _ (others : List TacKind) where
    -- the callee, whose temps have these kinds
    pub call_kinded : (o : Option Signature) (to : Option ℕ) (args : List ℕ) → call_fits p d kinds code o to args ≡ true
        → ((x : Signature) → o ≡ Some x → begins_with others x.params ≡ true)
        → AreOfKinds others (entry_temps others (values t args)) × Takes kinds to (gives_by o)
    call_kinded None to args e b = cc
    call_kinded (Some x) to args e b =
        let q = and_parts (all_have (has p d kinds code) args x.params) (result_fits p d kinds code to x.gives) e in (
          entry_kinded others x.params (values t args) (b x refl) (arguments args x.params q.0),
          takes to x.gives q.1,
        )

    -- the caller
    module _ (vars : List (Option Value)) (kinded : AreOfKinds others vars) where
      abbrev Behind : Option ℕ → Option ℕ → Type 0
      Behind v to = AreOfKinds others (with_result vars to (value_of t v)) × Gives v to

      by_kind : (o : Option Kind) (v to : Option ℕ) → return_by p d kinds code o v ≡ true → Takes others to o
          → Behind v to
      by_kind None None None e k = (kinded, tt)
      by_kind None None (Some to) e k = absurd k
      by_kind None (Some temp) to e k = cc
      by_kind (Some q) None to e k = cc
      by_kind (Some q) (Some temp) None e k = (kinded, tt)
      by_kind (Some q) (Some temp) (Some to) e k = (
        kinded_set others vars to (temp_in t temp) kinded k.0
            (kind_passes (kind_at others to) q (temp_in t temp) k.1 (of_kind temp q e)),
        tt,
      )

      pub return_kinded : (o : Option Signature) (v to : Option ℕ) → return_fits p d kinds code o v ≡ true
          → Takes others to (gives_by o) → Behind v to
      return_kinded None v to e k = cc
      return_kinded (Some x) v to e k = by_kind x.gives v to e k
