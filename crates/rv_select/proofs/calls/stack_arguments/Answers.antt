use Rattle.std.proofs.Common.{◌≡◌, ◌<◌, ◌≤◌, ◌∙◌, Some, length, get_or, arith}
use Rattle.std.specs.Prelude.{slice_get}
use Rattle.std.proofs.lemmas.Option.{slice_get-get_or}
use Rattle.select_words.specs.Passing.{StackedWords}
use Rattle.rv_select.specs.Choosing.{chosen}
use Rattle.rv_select.proofs.Passes.{puts_next, stacked}
use Rattle.rv_select.proofs.calls.stack_arguments.Goals as goal

pub loop-k-preserved : goal.loop-k-preserved
loop-k-preserved c =
    let a = c.args in
    let k = c.loop-k.k in
    let was = c.loop-k.invariant in
    let o = c.in_ok-r.ensures in
    let st = c.in_ok-store_far.ensures in
    let lt : k < length a.args.now = omega (arith, c.loop-k-test.true) in
    let least : 8 ≤ k = omega (arith, c.loop-k.auto.k) in
    let is : slice_get a.args.now k ≡ Some (get_or a.args.now k 0) =
    slice_get-get_or a.args.now k 0 lt in
    let g = was.grown in
    record {
      grown = (omega (arith, g, o.size, st.size), omega (arith, g, o.size, st.size, least), st.size.2 ∙ o.size.2 ∙ g.2);
      end = omega (arith, lt);
      words = λ h.
          let most : k ≤ 4194304 = omega (arith, lt, h.few) in
          puts_next (StackedWords (chosen a.f.now) a.args.now) 8 k a.code.now c.loop-k.code c.store_far.new.self least
          (was.words h)
          (stacked (chosen a.f.now) a.args.now k (get_or a.args.now k 0) c.in_ok-r.r c.stack_place.result c.left.result
          c.right.result c.loop-k.code c.operand.new.code c.store_far.new.self is c.left.ensures c.right.ensures
          (o.words (h.each k (get_or a.args.now k 0) is)) (c.stack_place.ensures least most) most st.text);
    }
