use Rattle.std.proofs.Common.{◌<◌, ◌≤◌, ◌∙◌, arith}
use Rattle.select_words.specs.Entries.{StackWords}
use Rattle.rv_select.specs.Choosing.{chosen}
use Rattle.rv_select.proofs.Passes.{puts_next}
use Rattle.rv_select.proofs.functions.stack_parameters.Goals as goal

pub loop-k-preserved : goal.loop-k-preserved
loop-k-preserved c =
    let a = c.args in
    let k = c.loop-k.k in
    let was = c.loop-k.invariant in
    let g = was.grown in
    let p = c.in_ok-stack_parameter.ensures in
    let lt : k < a.params = omega (arith, c.loop-k-test.true) in
    let least : 8 ≤ k = omega (arith, c.loop-k.auto.k) in
    record {
      grown = (omega (arith, g, p.size), omega (arith, g, p.size, least), p.size.2 ∙ g.2);
      end = omega (arith, lt);
      words = λ t.
          let few = t.few in
          puts_next (StackWords (chosen a.f.now)) 8 k a.code.now c.loop-k.code c.stack_parameter.new.code least
          (was.words t) (p.words least (omega (arith, lt, few)) (t.each k lt));
    }
