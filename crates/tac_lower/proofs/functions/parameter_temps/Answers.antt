use Rattle.std.proofs.lemmas.Result.{IfOk-from_err as fails}
use Rattle.std.proofs.Common.{length, get_or, ap, ◌∙◌, arith}
use Rattle.c_tree.specs.WellTyped.{type_in}
use Rattle.tac_lower.specs.Nodes.{kept_as, or_int}
use Rattle.tac_lower.proofs.Homes.{number_of, parameters_none, parameters_more, parameters_all, parameters_add}
use Rattle.tac_emit.proofs.Spending.{spent_within}
use Rattle.tac_lower.proofs.functions.parameter_temps.Goals as goal

pub loop-x-init : goal.loop-x-init
loop-x-init c = parameters_none c.args.program.p.now c.args.d.now c.args.out.now c.requires.none

pub temp-requires : goal.temp-requires
temp-requires c =
    let none = ap length c.requires.none in
    let n = c.requires.room in
    let same = ap length c.as_slice-x-items.ensures in
    let so_far = c.loop-x.invariant in
    record { room = record { temps = omega (arith, so_far.many); labels = omega (arith, so_far.labels) } }

pub loop-x-preserved : goal.loop-x-preserved
loop-x-preserved c =
    let p = c.args.program.p.now in
    let d = c.args.d.now in
    let kind = c.kind_of_type.ensures c.requires.ready
    ∙ ap (λ t. or_int (kept_as (type_in p t))) c.type_of_variable.ensures in
    parameters_more p d c.args.out.now c.loop-x.out c.temp.new.self c.loop-x.x-index _
    (get_or c.as_slice-x-items.result.now c.loop-x.x-index 0) _ c.loop-x.invariant c.in_ok-temp.ensures.grown
    c.in_ok-temp.ensures.adds
    c.in_ok-temp.ensures.next c.in_ok-temp.ensures.has kind
    (number_of c.as_slice-x-items.result.now d.params c.loop-x.x-index c.as_slice-x-items.ensures (omega arith))
    c.in_ok-temp.ensures.spent c.in_ok-temp.ensures.emits.added

pub returns : goal.returns
returns c =
    record {
      parameters = (let same = ap length c.as_slice-x-items.ensures in
          parameters_all c.args.program.p.now c.args.d.now c.args.out.now c.loop-x.out c.loop-x.x-index
          c.loop-x.invariant
          (omega arith));
      added = c.loop-x.invariant.added;
      grown = c.loop-x.invariant.grown;
      adds = (let same = ap length c.as_slice-x-items.ensures in
          parameters_add c.args.program.p.now c.args.d.now c.args.out.now c.loop-x.out c.loop-x.x-index _
          c.loop-x.invariant (omega arith));
      spent = (let same = ap length c.as_slice-x-items.ensures in
          spent_within c.loop-x.invariant.spent (omega arith) (omega arith));
    }

pub returns-in_err-temp : goal.returns-in_err-temp
returns-in_err-temp c =
    let e = c.from_residual.ensures.0 in
    record {
      added = fails _ _ e;
      adds = fails _ _ e;
      grown = fails _ _ e;
      parameters = fails _ _ e;
      spent = fails _ _ e;
    }
