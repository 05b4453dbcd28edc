-- Code that is within its program calls with few arguments: those past eight have places in its function's frame.
use Rattle.std.proofs.Common.{◌≡◌, ℕ, zero, suc, ◌-◌, ◌≤◌, List, [], ◌∷◌, length, Option, Some, None}
use Rattle.std.proofs.Common.{refl, ap, subst, arith}
use Rattle.std.specs.Prelude.{slice_get}
use Rattle.std.proofs.lemmas.Option.{same_Some}
use Rattle.c_tree.specs.TreeWeight.{HasLightFunctions, function_limit}
use Rattle.c_tree.specs.declared.typed.FunDef.{FunDef}
use Rattle.c_tree.specs.declared.typed.Typed.{Typed}
use Rattle.obj_mem.specs.Needs.{weight_in, weight_by}
use Rattle.tac_ir.specs.Costs.{outgoing, outgoing_by}
use Rattle.tac_ir.specs.declared.code.TacInstr.{TacInstr}
use Rattle.tac_ir.specs.declared.code.TacInstr.TheVariants as instr
use Rattle.lower_forms.specs.Forms.{IsShortCall}
use Rattle.lower_forms.specs.Laws.{CallsAreShort}

outgoing_at : (is : List TacInstr) (j : ℕ) (i : TacInstr) → slice_get is j ≡ Some i → outgoing_by i ≤ outgoing is
outgoing_at [] j i e = absurd cc
outgoing_at (x ∷ is) zero i e =
    subst (λ i. outgoing_by i ≤ outgoing (x ∷ is)) (same_Some x i e) (omega arith)
outgoing_at (x ∷ is) (suc j) i e = let h = outgoing_at is j i e in omega (arith, h)

function_light : (p : Typed) → HasLightFunctions p → (k : ℕ) → weight_in p k ≤ function_limit
function_light p light k = by (slice_get p.funs k) refl
  where
    by : (m : Option FunDef) → slice_get p.funs k ≡ m → weight_by p m ≤ function_limit
    by None e = omega arith
    by (Some d) e = light.each k d e

few : (i : TacInstr) → outgoing_by i ≤ 15560 → IsShortCall i
few (instr.Call to fun args) h = let g : length args - 8 ≤ 15560 = h in omega (arith, g)
few (instr.CallValue to v of args pos) h = let g : length args - 8 ≤ 15560 = h in omega (arith, g)
few i h = tt

pub calls_are_short : CallsAreShort
calls_are_short p light t costs k f e i at =
    let c = (costs.functions k f e).temps in
    let l = function_light p light k in
    let b = outgoing_at f.code at.0 i at.1 in
    few i (omega (arith, c, l, b))
