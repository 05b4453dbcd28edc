use Rattle.std.proofs.Common.{◌≡◌, ◌<◌, length, refl, sym, ap, ◌∙◌, arith}
use Rattle.std.specs.List.{sum_by}
use Rattle.std.proofs.lemmas.List.{take_all}
use Rattle.tac_ir.specs.Costs.{cost}
use Rattle.rv_select.specs.Choosing.{chosen}
use Rattle.rv_emit.proofs.Appended.{on_both}
use Rattle.rv_select.proofs.Noted.{selects_next}
use Rattle.rv_select.proofs.Standing.{function_put}
use Rattle.rv_select.proofs.TakeSums.{sum_step, sum_room}
use Rattle.rv_select.proofs.functions.select_function.Goals as goal

pub instruction-requires-clause-room : goal.instruction-requires-clause-room
instruction-requires-clause-room c =
    let lt : c.loop-i.i-index < length c.as_slice-all.result.now = omega (arith, c.loop-i-test.true) in
    let r = sum_room cost c.as_slice-all.result.now c.loop-i.i-index c.i-item.result lt c.i-item.is in
    let e : sum_by cost c.as_slice-all.result.now ≡ sum_by cost c.args.t.now.code = ap
    (sum_by cost) c.as_slice-all.ensures in
    let f = c.loop-i.invariant.grown.1 in
    let g = c.requires.room in
    let p = c.in_ok-begin.ensures.size in
    let q = c.in_ok-parameters.ensures.size in
    omega (arith, r, e, f, g, p.1, q.1)

pub loop-i-init : goal.loop-i-init
loop-i-init c = record {
  grown = (omega arith, omega arith, refl);
  words = λ suit. (refl, refl);
}

pub loop-i-preserved : goal.loop-i-preserved
loop-i-preserved c =
    let all = c.as_slice-all.result.now in
    let lt : c.loop-i.i-index < length all = omega (arith, c.loop-i-test.true) in
    let r = sum_step cost all c.loop-i.i-index c.i-item.result lt c.i-item.is in
    let a = c.loop-i.invariant.grown in
    let e = c.in_ok-instruction.ensures in
    record {
      grown = (omega (arith, a.0, e.size.0), omega (arith, r, a.1, e.size.1), e.size.2 ∙ a.2);
      words = λ suit. selects_next (chosen c.args.f.now) all c.loop-i.i-index c.i-item.result _ _ _ lt c.i-item.is
          (c.loop-i.invariant.words suit) (e.words (suit c.i-item.result (c.loop-i.i-index, lt, sym c.i-item.is)));
    }

pub returns-clause-put : goal.returns-clause-put
returns-clause-put c =
    let ends = c.lead_to_labels.ensures in
    let all = c.as_slice-all.result.now in
    let first = c.counted.ensures in
    let last = c.counted-2.ensures in
    let begun = c.in_ok-begin.ensures.size.1 in
    let ready = c.in_ok-parameters.ensures.size.1 in
    let grown = c.loop-i.invariant.grown.1 in
    let whole = ap (sum_by cost) (take_all c.loop-i.i-index all c.loop-i-test.false ∙ c.as_slice-all.ensures) in
    on_both c.lead_to_labels.result _ _ _ ends.links ends.led
    (λ links led. function_put c.args.f.now c.args.t.now c.args.code.now _ _ _ _ all c.loop-i.i-index
    c.as_slice-all.ensures c.loop-i-test.false c.in_ok-begin.ensures.text c.in_ok-begin.ensures.links
    c.in_ok-parameters.ensures.words c.in_ok-parameters.ensures.size.2 c.loop-i.invariant.words links led
    (λ short. omega (arith, first, last, begun, ready, grown, whole, short)))
