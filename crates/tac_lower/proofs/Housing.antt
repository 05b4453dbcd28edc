-- Where variables stand.
use Rattle.std.proofs.Common.{◌≡◌, ℕ, zero, suc, ◌<◌, false, List, [], ◌∷◌, length, Some, refl, sym, subst, arith}
use Rattle.std.specs.Prelude.{slice_get}
use Rattle.std.proofs.lemmas.Option.{slice_get_within}
use Rattle.c_tree.specs.WellTyped.{type_in}
use Rattle.c_tree.specs.declared.typed.FunDef.{FunDef}
use Rattle.c_tree.specs.declared.typed.Typed.{Typed}
use Rattle.c_tree.specs.declared.typed.VarDef.{VarDef}
use Rattle.tac_ir.specs.declared.code.TacKind.{TacKind}
use Rattle.tac_ir.specs.declared.code.TacKind.TheVariants as kinds
use Rattle.tac_lower.specs.declared.context.Home.{Home}
use Rattle.tac_lower.specs.declared.context.Home.TheVariants as home
use Rattle.tac_emit.specs.declared.emitter.Emitter.{Emitter}
use Rattle.tac_emit.specs.Emitted.{HasKind}
use Rattle.tac_lower.specs.Nodes.{kept_as, or_int}
use Rattle.tac_lower.specs.Scenes.{Housed}

pub there : (vs : List VarDef) (x : ℕ) → x < length vs → (v : VarDef) × (slice_get vs x ≡ Some v)
there [] x lt = absurd (omega arith)
there (v ∷ vs) zero lt = (v, refl)
there (v ∷ vs) (suc x) lt = there vs x (omega arith)

-- the pointer to an object
pub pointer_home : (p : Typed) (d : FunDef) (homes : List Home) (e : Emitter) (x n t : ℕ) → Housed p d homes e →
    slice_get homes x ≡ Some (home.Object n t) → HasKind e t (kinds.Cap false)
pointer_home p d homes e x n t h is =
    let lt = slice_get_within homes x (home.Object n t) is in
    let m = h.many in
    let v = there d.vars x (omega arith) in
    (h.stand x (home.Object n t) v.0 is v.1).0

-- the value of a variable
pub value_home : (p : Typed) (d : FunDef) (homes : List Home) (e : Emitter) (x t : ℕ) (k : TacKind) (v : VarDef) →
    Housed p d homes e → slice_get homes x ≡ Some (home.Temp t k) → slice_get d.vars x ≡ Some v
    → HasKind e t (or_int (kept_as (type_in p v.of)))
value_home p d homes e x t k v h is at =
    let f = h.stand x (home.Temp t k) v is at in subst (λ z. HasKind e t z) (sym f.1) f.0
