use Rattle.std.proofs.Common.{refl}
use Rattle.tac_lower.proofs.expressions.change_of.Goals as goal

pub returns-clause-is : goal.returns-clause-is
returns-clause-is c = record {
  same = refl;
  computed = c.kind_of_type.ensures c.requires.ready;
  element = c.element.ensures.is c.requires.ready;
  size = c.element.ensures.size c.requires.ready;
}
