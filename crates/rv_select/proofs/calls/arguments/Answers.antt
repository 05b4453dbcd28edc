use Rattle.std.proofs.Common.{◌∙◌, arith}
use Rattle.rv_select.proofs.Passes.{brought_next, arguments_passed}
use Rattle.rv_select.proofs.calls.arguments.Goals as goal

pub loop-other-preserved : goal.loop-other-preserved
loop-other-preserved c =
    let a = c.args in
    let g = c.loop-other.invariant.grown in
    let b = c.in_ok-bring.ensures in
    record {
      grown = (omega (arith, g, b.size), omega (arith, g, b.size), b.size.2 ∙ g.2);
      words = λ h. brought_next a.f.now a.args.now c.in_ok-moves.field-0 c.deref-other-items.result.now
          c.loop-other.other-index c.other-item.result (c.in_ok-moves.ensures.placed h)
          c.deref-other-items.ensures.value c.loop-other-test.true c.other-item.is c.move_all.new.code
          c.loop-other.code c.bring.new.code (c.in_ok-moves.ensures.chosen h) (c.loop-other.invariant.words h) b.words;
    }

pub returns-clause-words : goal.returns-clause-words
returns-clause-words c = λ h.
    arguments_passed c.args.f.now c.args.args.now c.in_ok-moves.field-0 c.deref-other-items.result.now
    c.loop-other.other-index c.args.code.now c.stack_arguments.new.code c.move_all.new.code c.loop-other.code
    (c.in_ok-moves.ensures.placed h) c.deref-other-items.ensures.value c.loop-other-test.false
    c.loop-other.auto.other-index-end (c.in_ok-stack_arguments.ensures.words h) c.in_ok-move_all.ensures.grows
    c.in_ok-move_all.ensures.none
    (c.loop-other.invariant.words h)
