use Rattle.std.proofs.Common.{arith, subst, sym}
use Rattle.std.proofs.lemmas.List.{drop_all}
use Rattle.std.proofs.lemmas.Result.{IfOk-weaker, MatchResult-weaker}
use Rattle.c_phrases.specs.Got.{IsPlaceOf}
use Rattle.c_externals.proofs.Parted.{up_to_begin, up_to_step, up_to_end, drop_at, low_at}
use Rattle.c_phrases.proofs.Paying.{weight_low}
use Rattle.c_externals.proofs.statements.node_of.Goals as goal

pub loop-part-init : goal.loop-part-init
loop-part-init c = record {
  low = omega (arith, c.no_parts-all.ensures.size);
  small = c.requires.low;
  holds = λ xs m. up_to_begin c.no_parts-all.ensures.none m;
}

pub loop-part-preserved : goal.loop-part-preserved
loop-part-preserved c =
    let at = c.loop-part.invariant in
    let split = drop_at c.args.parts.now c.loop-part.part-index _ (omega (arith, c.loop-part-test.true)) in
    let small = low_at at.small split in
    record {
      low = omega (arith, at.low, small.0, c.in_ok-push.ensures.size);
      small = small.1;
      holds = λ xs m. up_to_step (at.holds xs m) split c.in_ok-push.ensures.kids c.in_ok-push.ensures.size;
    }

pub returns-clause-low : goal.returns-clause-low
returns-clause-low c = IfOk-weaker c.join.result _ _
    (λ p e. omega (arith, e, c.loop-part.invariant.low, weight_low c.args.kind)) c.join.ensures.low

pub returns-clause-tree : goal.returns-clause-tree
returns-clause-tree c = MatchResult-weaker c.join.result c.join.ensures.tree
    (λ part made xs meant first names. made.means xs (subst (IsPlaceOf _) (sym first) c.place.ensures) names
    (up_to_end (c.loop-part.invariant.holds xs meant)
    (drop_all c.loop-part.part-index c.args.parts.now (omega (arith, c.loop-part-test.false)))))
    (λ e m. m)
