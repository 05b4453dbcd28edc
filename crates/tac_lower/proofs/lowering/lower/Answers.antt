use Rattle.std.proofs.Common.{◌≡◌, ◌+◌, ◌≤◌, true, [], take, ap, sym, ◌∙◌, subst, arith}
use Rattle.std.specs.List.{sum_by}
use Rattle.std.proofs.lemmas.List.{take_all}
use Rattle.tac_ir.specs.WellFormed.{functions_fit, is_well_formed}
use Rattle.tac_ir.specs.Within.{function_copies}
use Rattle.tac_lower.specs.Lowered.{names_of, names_in}
use Rattle.tac_lower.specs.Tables.{TableFits}
use Rattle.tac_lower.proofs.Copying.{copies_of_functions}
use Rattle.tac_lower.proofs.Costing.{CostsTo, costs_none, costs_more, copied_by, copies_more}
use Rattle.tac_lower.proofs.Costing.{AllZeroOnce, AllShort, short_none, short_more, zeros_none, zeros_more}
use Rattle.tac_lower.proofs.Homes.{function_at, named_next, formed_next, light_next, are_functions}
use Rattle.lower_runs.specs.Programs.{AreCodeOf}
use Rattle.tac_lower.specs.Trees.{AreCovered, signatures}
use Rattle.cheri_c_sem.specs.Expressions.{expr_tree}
use Rattle.tac_lower.proofs.Whole.{codes_next}
use Rattle.tac_lower.proofs.Sound.{runs_as, is_within}
use Rattle.tac_lower.proofs.lowering.lower.Goals as goal

pub loop-d-init : goal.loop-d-init
loop-d-init c = record {
  named = ap names_of c.new-funs.ensures.items;
  costs = subst (λ z. CostsTo c.args.p.now z 0) (sym c.new-funs.ensures.items) (costs_none c.args.p.now);
  copies = omega (arith, ap (sum_by function_copies) c.new-funs.ensures.items);
  zeros = subst AllZeroOnce (sym c.new-funs.ensures.items) zeros_none;
  short = subst AllShort (sym c.new-funs.ensures.items) short_none;
  formed = ap (λ z. functions_fit c.args.p.now [] z) c.new-funs.ensures.items;
  is = λ st. subst (λ z. AreCodeOf c.args.p.now (signatures c.args.p.now) 0 [] z) (sym c.new-funs.ensures.items) tt;
}

pub function-requires-clause-ready : goal.function-requires-clause-ready
function-requires-clause-ready c = record {
  order = c.requires.ordered;
  ordered = c.requires.listed;
  funs = are_functions c.args.p.now c.requires.typed;
  table = subst (λ z. TableFits c.args.p.now.types z) (sym c.as_slice.ensures.value) c.in_ok-types.ensures;
}

pub function-requires-clause-fits : goal.function-requires-clause-fits
function-requires-clause-fits c =
    c.requires.typed.each c.loop-d.d-index c.d-item.result
    (function_at c.args.p.now c.as_slice-defs.result.now c.loop-d.d-index c.d-item.result c.as_slice-defs.ensures
    c.loop-d-test.true c.d-item.is)

pub function-requires-clause-light : goal.function-requires-clause-light
function-requires-clause-light c =
    light_next c.args.p.now c.as_slice-defs.result.now c.loop-d.d-index c.d-item.result c.as_slice-defs.ensures
    c.loop-d-test.true c.d-item.is c.requires.light

pub loop-d-preserved : goal.loop-d-preserved
loop-d-preserved c =
    let p = c.args.p.now in
    let xs = c.as_slice-defs.result.now in
    let i = c.loop-d.d-index in
    let d = c.d-item.result in
    let same = c.as_slice-defs.ensures in
    let fs = c.loop-d.funs.items in
    let f = c.in_ok-f.f in
    let items = sym c.in_ok-push.ensures.items in
    record {
      named = subst (λ z. names_of z ≡ names_in (take (i + 1) xs)) items
          (named_next p xs i d same c.loop-d-test.true c.d-item.is fs f c.loop-d.invariant.named
          c.in_ok-f.ensures.named);
      costs = subst (λ z. CostsTo p z (i + 1)) items
          (costs_more p d fs f i c.loop-d.invariant.costs (function_at p xs i d same c.loop-d-test.true c.d-item.is)
          c.in_ok-f.ensures.costs);
      copies = subst (λ z. sum_by function_copies z ≤ copied_by p (take (i + 1) xs)) items
          (copies_more p xs i d fs f c.loop-d-test.true c.d-item.is c.loop-d.invariant.copies c.in_ok-f.ensures.copies);
      zeros = subst AllZeroOnce items (zeros_more fs f c.loop-d.invariant.zeros c.in_ok-f.ensures.zeros);
      short = subst AllShort items (short_more fs f c.loop-d.invariant.short c.in_ok-f.ensures.short);
      formed = subst (λ z. functions_fit p (take (i + 1) xs) z ≡ true) items
          (formed_next p xs i d same c.loop-d-test.true c.d-item.is fs f c.loop-d.invariant.formed
          c.in_ok-f.ensures.formed);
      is = λ st. subst (λ z. AreCodeOf p (signatures p) 0 (take (i + 1) xs) z) items
          (codes_next p (signatures p) xs i d fs f c.loop-d-test.true c.d-item.is (c.loop-d.invariant.is st)
          (c.in_ok-f.ensures.is st i (function_at p xs i d same c.loop-d-test.true c.d-item.is)));
    }

pub returns-clause-named : goal.returns-clause-named
returns-clause-named c =
    let all = take_all c.loop-d.d-index c.as_slice-defs.result.now c.loop-d-test.false ∙ c.as_slice-defs.ensures in
    ap names_of c.from_vec.ensures ∙ c.loop-d.invariant.named ∙ ap names_in all

pub returns-clause-formed : goal.returns-clause-formed
unfolding is_well_formed
returns-clause-formed c =
    let p = c.args.p.now in
    let all = take_all c.loop-d.d-index c.as_slice-defs.result.now c.loop-d-test.false ∙ c.as_slice-defs.ensures in
    ap (λ z. functions_fit p p.funs z) c.from_vec.ensures
    ∙ ap (λ z. functions_fit p z c.loop-d.funs.items) (sym all) ∙ c.loop-d.invariant.formed

pub returns-clause-costs : goal.returns-clause-costs
returns-clause-costs c =
    record {
      functions = (subst (λ z. CostsTo c.args.p.now z c.loop-d.d-index)
          (sym c.from_vec.ensures) c.loop-d.invariant.costs).each;
    }

pub returns-clause-copies : goal.returns-clause-copies
returns-clause-copies c =
    let all = take_all c.loop-d.d-index c.as_slice-defs.result.now c.loop-d-test.false ∙ c.as_slice-defs.ensures in
    omega (
      arith,
      ap (sum_by function_copies) c.from_vec.ensures,
      c.loop-d.invariant.copies,
      ap (copied_by c.args.p.now) all,
      copies_of_functions c.args.p.now c.requires.listed,
    )

pub returns-clause-zeros : goal.returns-clause-zeros
returns-clause-zeros c = subst AllZeroOnce (sym c.from_vec.ensures) c.loop-d.invariant.zeros

pub returns-clause-short : goal.returns-clause-short
returns-clause-short c = subst AllShort (sym c.from_vec.ensures) c.loop-d.invariant.short

pub function-requires-clause-covered : goal.function-requires-clause-covered
function-requires-clause-covered c = λ vars.
    subst (λ z. AreCovered z (expr_tree c.args.p.now vars)) (sym c.as_slice-2.ensures.value)
    (c.in_ok-writes.ensures c.requires.ordered vars)

pub returns-clause-is : goal.returns-clause-is
returns-clause-is c = λ st.
    let p = c.args.p.now in
    let all = take_all c.loop-d.d-index c.as_slice-defs.result.now c.loop-d-test.false ∙ c.as_slice-defs.ensures in
    record {
      signs = signatures p;
      functions = subst (λ z. AreCodeOf p (signatures p) 0 p.funs z) (sym c.from_vec.ensures)
          (subst (λ z. AreCodeOf p (signatures p) 0 z c.loop-d.funs.items) all (c.loop-d.invariant.is st));
    }

pub returns-clause-same : goal.returns-clause-same
returns-clause-same c = λ sound. runs_as c.args.p.now sound _ (returns-clause-is c)

pub returns-clause-within : goal.returns-clause-within
returns-clause-within c = λ sound.
    is_within c.args.p.now sound _ (returns-clause-is c) (returns-clause-formed c) (returns-clause-costs c)
    (returns-clause-copies c) (returns-clause-zeros c)
