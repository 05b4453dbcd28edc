-- What functions give back, where their variables stand, and how their code ends.
use Rattle.std.proofs.Common.{◌≡◌, ℕ, ◌<◌, ◌≤◌, true, false, List, length, Option, Some, None, Result, Ok, Err, IfOk}
use Rattle.std.proofs.Common.{refl, sym, ap, ◌∙◌, subst, arith}
use Rattle.std.specs.Prelude.{slice_get, nat_lt, ◌==◌, ◌||◌}
use Rattle.std.proofs.lemmas.Bool.Decides.{nat_tests}
use Rattle.std.proofs.lemmas.Option.{slice_get_within}
use Rattle.c_tree.specs.Terms.{type_of}
use Rattle.c_tree.specs.Types as ty
use Rattle.c_tree.specs.Types.{Ty}
use Rattle.c_tree.specs.WellTyped.{FunctionFits, InitFits, type_in}
use Rattle.c_tree.specs.declared.typed.FunDef.{FunDef}
use Rattle.c_tree.specs.declared.typed.Typed.{Typed}
use Rattle.c_tree.specs.declared.typed.VarDef.{VarDef}
use Rattle.cheri_c_sem.specs.Programs.{lengths_of}
use Rattle.tac_ir.specs.declared.code.TacInstr.TheVariants as instr
use Rattle.tac_ir.specs.declared.code.TacKind.{TacKind}
use Rattle.tac_ir.specs.declared.code.TacKind.TheVariants as kinds
use Rattle.tac_lower.specs.declared.context.Home.{Home}
use Rattle.tac_lower.specs.declared.context.Home.TheVariants as home
use Rattle.tac_emit.specs.declared.emitter.Emitter.{Emitter}
use Rattle.tac_lower.specs.declared.types.TypeFacts.{TypeFacts}
use Rattle.tac_emit.specs.Emitted.{HasKind, Pushed, Entered, Filled}
use Rattle.tac_lower.specs.Nodes.{expression, kept_as, or_int, scalar_in, kind_in, IsScalar}
use Rattle.tac_lower.specs.Parts.{ReturnPart}
use Rattle.tac_lower.specs.Scenes.{HomeFits, Housed, Scene, Lowered, frame_of, given_in}
use Rattle.tac_lower.specs.Signed.{ReturnFits}
use Rattle.tac_lower.proofs.Called.{return_lowered, program_lowered}
use Rattle.tac_lower.proofs.Housing.{there}
use Rattle.tac_lower.proofs.Nodes.{agree_kept}
use Rattle.tac_lower.proofs.Signatures.{signature_is}
use Rattle.tac_lower.proofs.Steps as steps

-- ---- what a function gives

kept_bare : (t : Ty) → kept_as (ty.bare t) ≡ kept_as t
kept_bare (ty.Const t) = refl
kept_bare t = refl

pub scalar_kept : (t : Ty) → ty.is_scalar t ≡ true → (j : TacKind) × (kept_as t ≡ Some j)
scalar_kept (ty.Int j n) h = (kinds.Int j, refl)
scalar_kept (ty.Cap s) h = (kinds.Cap s, refl)
scalar_kept (ty.Pointer t) h = (kinds.Cap false, refl)
scalar_kept t h = absurd cc

void_kept : (t : Ty) → ty.is_void t ≡ true → kept_as t ≡ None
void_kept ty.Void h = refl
void_kept t h = absurd cc

module _ {p : Typed} {d : FunDef} where
  pub given_kept : (fits : FunctionFits p d) → kept_as (given_in (type_in p d.of)) ≡ kept_as fits.result
  given_kept fits = ap (λ z. kept_as (given_in z)) fits.type_is ∙ kept_bare fits.result

  -- a Return of nothing, or of what has no value
  pub none_returned : (fits : FunctionFits p d) (k : ℕ) → ReturnPart (frame_of p d) k None → kept_as fits.result ≡ None
  none_returned fits k part = sym (given_kept fits) ∙ void_kept (given_in (type_in p d.of)) (part.nothing refl)

  pub value_returned : (fits : FunctionFits p d) (k a : ℕ) → ReturnPart (frame_of p d) k (Some a)
      → scalar_in p a ≡ kept_as fits.result
  value_returned fits k a part = agree_kept (λ m n. m == n || m == 0 || n == 0) (type_of (expression p a))
      (given_in (type_in p d.of)) (part.given a refl) ∙ given_kept fits

  pub return_of_none : (fits : FunctionFits p d) (e : Emitter) → kept_as fits.result ≡ None
      → ReturnFits e (kept_as fits.result) None
  return_of_none fits e h = subst (λ z. ReturnFits e z None) (sym h) tt

  pub return_of : (fits : FunctionFits p d) (e : Emitter) (t a : ℕ) (k : TacKind)
      → scalar_in p a ≡ kept_as fits.result → scalar_in p a ≡ Some k → HasKind e t (kind_in p a)
      → ReturnFits e (kept_as fits.result) (Some t)
  return_of fits e t a k h s has =
      subst (λ z. ReturnFits e z (Some t)) (sym s ∙ h) (subst (λ z. HasKind e t (or_int z)) s has)

  pub tail_left : {T E : Type 0} {types : List TypeFacts} {homes : List Home} {a b : Emitter} {n q : ℕ}
      (c : Emitter) (r : Result T E) (v : Option ℕ) (fits : FunctionFits p d)
      → Lowered p d types homes a b n → ReturnFits b (kept_as fits.result) v
      → IfOk r (λ _. Pushed b c (instr.Return v)) → n ≤ q → IfOk r (λ _. Lowered p d types homes a c q)
  tail_left {types = types} {homes = homes} {b = b} c (Ok x) v fits f h g l =
      steps.at_most
      (steps.both f
      (return_lowered p d types homes b c f.scene v fits.result fits.takes
      (signature_is p f.scene.ready.ordered d.of fits.result fits.takes fits.type_is) h g)) (omega arith)
  tail_left c (Err e) v fits f h g l = tt

-- ---- variables

same_def : (u v : VarDef) (o : Option VarDef) → o ≡ Some u → o ≡ Some v → u ≡ v
same_def u v o a b = cc

number_at : (m n : ℕ) → nat_lt m n ≡ true → m < n
number_at m n h = grind (arith, nat_tests)

module _ {p : Typed} {d : FunDef} {homes : List Home} {e : Emitter} where
  -- where a variable stands
  pub fits_at : (x : ℕ) (h : Home) → Housed p d homes e → slice_get homes x ≡ Some h
      → (v : VarDef) × (slice_get d.vars x ≡ Some v) × HomeFits p d e v h
  fits_at x h housed is =
      let lt = slice_get_within homes x h is in
      let m = housed.many in
      let v = there d.vars x (omega arith) in
      (v.0, v.1, housed.stand x h v.0 is v.1)

  pub temp_at : (x t : ℕ) (k : TacKind) → Housed p d homes e → slice_get homes x ≡ Some (home.Temp t k) → HasKind e t k
  temp_at x t k housed is = (fits_at x (home.Temp t k) housed is).2.0

  pub pointer_at : (x n t : ℕ) → Housed p d homes e → slice_get homes x ≡ Some (home.Object n t)
      → HasKind e t (kinds.Cap false)
  pointer_at x n t housed is = (fits_at x (home.Object n t) housed is).2.0

  -- a variable that is no object is given a value of its own kind
  pub whole_at : (x offset a t : ℕ) (k : TacKind) → Housed p d homes e → slice_get homes x ≡ Some (home.Temp t k)
      → InitFits (frame_of p d) x offset (type_of (expression p a)) → HasKind e t (kind_in p a)
  whole_at x offset a t k housed is lies =
      let f = fits_at x (home.Temp t k) housed is in
      let v = lies.0 in
      let same : f.0 ≡ v = same_def f.0 v (slice_get d.vars x) f.1 lies.3 in
      let simple : v.simple ≡ true = subst (λ (z : VarDef). z.simple ≡ true) same f.2.2 in
      let type : type_of (expression p a) ≡ ty.bare (type_in p v.of) = (lies.7 simple).1 in
      let kind : kind_in p a ≡ k = ap (λ z. or_int (kept_as z)) type ∙ ap or_int (kept_bare (type_in p v.of))
      ∙ subst (λ (z : VarDef). or_int (kept_as (type_in p z.of)) ≡ k) same f.2.1 in
      steps.as_kind f.2.0 (sym kind)

  -- and it is a scalar
  pub whole_scalar : (x offset a t : ℕ) (k : TacKind) → Housed p d homes e → slice_get homes x ≡ Some (home.Temp t k)
      → InitFits (frame_of p d) x offset (type_of (expression p a)) → FunctionFits p d → IsScalar p a k
  whole_scalar x offset a t k housed is lies fits =
      let f = fits_at x (home.Temp t k) housed is in
      let v = lies.0 in
      let same : f.0 ≡ v = same_def f.0 v (slice_get d.vars x) f.1 lies.3 in
      let simple : v.simple ≡ true = subst (λ (z : VarDef). z.simple ≡ true) same f.2.2 in
      let type : type_of (expression p a) ≡ ty.bare (type_in p v.of) = (lies.7 simple).1 in
      let kept = scalar_kept (ty.bare (type_in p v.of)) (fits.simple_scalar x v lies.3 simple) in
      let whole : or_int (kept_as (type_in p v.of)) ≡ k =
      subst (λ (z : VarDef). or_int (kept_as (type_in p z.of)) ≡ k) same f.2.1 in
      let kind : kept.0 ≡ k = ap or_int (sym kept.1 ∙ kept_bare (type_in p v.of)) ∙ whole in
      record { is = ap kept_as type ∙ kept.1 ∙ ap Some kind }

  pub object_at : (x n t : ℕ) → Housed p d homes e → slice_get homes x ≡ Some (home.Object n t)
      → n < length (lengths_of p d.vars)
  object_at x n t housed is = number_at n (length (lengths_of p d.vars)) (fits_at x (home.Object n t) housed is).2.1

-- its block is entered
pub entered : {p : Typed} {d : FunDef} {types : List TypeFacts} {homes : List Home} {a b : Emitter} (x n t : ℕ)
    → Scene p d types homes a → slice_get homes x ≡ Some (home.Object n t) → Entered a b t n
    → Lowered p d types homes a b 0
entered {p = p} {d = d} {types = types} {homes = homes} {a = a} {b = b} x n t s is h =
    let one = program_lowered p d types homes a h.middle s (instr.Zero n) (object_at x n t s.housed is) h.zero in
    let two = program_lowered p d types homes h.middle b one.scene (instr.Local t n)
    (pointer_at x n t one.scene.housed is, object_at x n t s.housed is) h.points in
    steps.both one two

-- and a value is stored there
pub filled : {p : Typed} {d : FunDef} {types : List TypeFacts} {homes : List Home} {a b : Emitter} (x n t : ℕ)
    → Scene p d types homes a → slice_get homes x ≡ Some (home.Object n t) → Filled a b t n
    → Lowered p d types homes a b 0
filled x n t s is h = steps.grew (entered x n t s is h.entered) h.stored h.adds

pub tail_entered : {T E : Type 0} {p : Typed} {d : FunDef} {types : List TypeFacts} {homes : List Home}
    {a : Emitter} (b : Emitter) (r : Result T E) (x n t : ℕ)
    → Scene p d types homes a → slice_get homes x ≡ Some (home.Object n t) → IfOk r (λ _. Entered a b t n)
    → IfOk r (λ _. Lowered p d types homes a b 0)
tail_entered b (Ok y) x n t s is h = entered x n t s is h
tail_entered b (Err y) x n t s is h = tt
