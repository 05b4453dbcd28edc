use Rattle.std.proofs.Common.{◌≡◌, List, true, false, Some, refl, sym, ap, ◌∙◌, subst, arith}
use Rattle.std.specs.Prelude.{slice_get}
use Rattle.std.proofs.lemmas.Option.{slice_get_read}
use Rattle.obj_mem.specs.Needs.{weight_in}
use Rattle.tac_ir.specs.Within.{FunctionCosts}
use Rattle.tac_ir.specs.declared.code.TacFun.{TacFun}
use Rattle.tac_ir.proofs.Weighing.{costs_counted, costs_uncounted, one_more}
use Rattle.tac_ir.proofs.within.is_within_costs.Goals as goal
use Rattle.tac_ir.proofs.within.is_within_costs.Goals.{After-is_within}

-- the function that the loop has come to
here : (c : After-is_within) → slice_get c.args.t.now.funs c.loop-k.k ≡ Some c.f-item.result
here c = sym (ap (λ (fs : List TacFun). slice_get fs c.loop-k.k) c.as_slice-f-items.ensures)
    ∙ slice_get_read c.as_slice-f-items.result.now _ c.loop-k.k c.f-item.result refl (omega arith) c.f-item.is

pub loop-k-preserved : goal.loop-k-preserved
loop-k-preserved c =
    let counted = c.is_within.ensures.within.0 c.if-not-is_within.false in
    let item = c.f-item.result in
    one_more c.args.p.now c.args.t.now.funs c.loop-k.k item (here c.before)
    (costs_counted (weight_in c.args.p.now c.loop-k.k) item
    (subst (λ w. FunctionCosts w item) c.weight_in.ensures counted)) c.loop-k.invariant

different : true ≡ false → (A : Type 0) → A
different e A = absurd cc

pub returns-then-not-is_within : goal.returns-then-not-is_within
returns-then-not-is_within c =
    let item = c.f-item.result in (
      λ e. different (sym e) _,
      λ h.
          let counted = costs_uncounted (weight_in c.args.p.now c.loop-k.k) item c.is_within.ensures.cost_bound
          c.is_within.ensures.temps_bound (h.functions c.loop-k.k item (here c.before)) in
          different (sym (c.is_within.ensures.within.1
          (subst (λ w. FunctionCosts w item) (sym c.weight_in.ensures) counted)) ∙ c.if-not-is_within.true) _,
    )
