use Rattle.std.proofs.Common.{◌<◌, ◌∙◌, arith}
use Rattle.rv_select.specs.Choosing.{chosen}
use Rattle.rv_select.proofs.Params.{settled_next}
use Rattle.rv_select.proofs.functions.register_parameters.Goals as goal

pub loop-k-preserved : goal.loop-k-preserved
loop-k-preserved c =
    let a = c.args in
    let k = c.loop-k.k in
    let was = c.loop-k.invariant in
    let p = c.in_ok-register_parameter.ensures in
    let lt : k < a.params = omega (arith, c.loop-k-test.true, c.min-count.ensures) in
    record {
      kept = omega (arith, was.kept, p.kept);
      few = omega (arith, was.few, p.few);
      links = p.links ∙ was.links;
      words = λ t. settled_next (chosen a.f.now) k c.loop-k.moves.items c.register_parameter.new.moves.items a.code.now
          c.loop-k.code c.register_parameter.new.code (was.words t) (p.words (t.each k lt));
    }
