use Rattle.std.proofs.Common.{arith, refl, sym, ap, ◌∙◌}
use Rattle.c_types.specs.Looks.{name_among}
use Rattle.c_types.proofs.Looking.{reversed_turn, reversed_whole, reversed_none, or_else-some, or_else-none}
use Rattle.c_types.proofs.scopes.name_of.Goals as goal

pub loop-left-init : goal.loop-left-init
loop-left-init c = record {
  within = omega arith;
  rest = sym (ap (λ cs. name_among cs c.args.name.now) (reversed_whole c.args.scopes.now _ refl));
}

pub returns-in-Some : goal.returns-in-Some
returns-in-Some c =
    sym (c.loop-left.invariant.rest
    ∙ ap (λ cs. name_among cs c.args.name.now)
    (reversed_turn c.args.scopes.now c.loop-left.left c.index-scopes-left.result c.loop-left-test.true
    c.loop-left.invariant.within c.index-scopes-left.is)
    ∙ or_else-some _ _ _ (sym c.in-Some.ensures))

pub loop-left-preserved : goal.loop-left-preserved
loop-left-preserved c = record {
  within = omega (arith, c.loop-left.invariant.within);
  rest = c.loop-left.invariant.rest
      ∙ ap (λ cs. name_among cs c.args.name.now)
      (reversed_turn c.args.scopes.now c.loop-left.left c.index-scopes-left.result c.loop-left-test.true
      c.loop-left.invariant.within c.index-scopes-left.is)
      ∙ or_else-none _ _ (sym c.in-None.ensures);
}

pub returns : goal.returns
returns c = sym (c.loop-left.invariant.rest
    ∙ ap (λ cs. name_among cs c.args.name.now)
    (reversed_none c.args.scopes.now c.loop-left.left c.loop-left-test.false))
