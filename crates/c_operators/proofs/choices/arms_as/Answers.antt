use Rattle.std.proofs.Common.{refl}
use Rattle.c_expressions.proofs.Keeping.{keeps_same, type_here}
use Rattle.c_operators.proofs.Choosing.{maybe_has}
use Rattle.c_operators.proofs.choices.arms_as.Goals as goal

pub returns-in_ok-of-in-Common : goal.returns-in_ok-of-in-Common
returns-in_ok-of-in-Common c = rw c.in-Common.is (maybe_has c.args.nodes.now _ _ _ _ c.in_ok-of-in-Common.ensures refl)

pub returns-in-Second : goal.returns-in-Second
returns-in-Second c = rw c.in-Second.is (record {
  keeps = keeps_same c.args.nodes.now c.requires.whole;
  is = type_here c.args.nodes.now c.args.s c.requires.first;
})

pub returns-in-Third : goal.returns-in-Third
returns-in-Third c = rw c.in-Third.is (record {
  keeps = keeps_same c.args.nodes.now c.requires.whole;
  is = type_here c.args.nodes.now c.args.t c.requires.second;
})

pub returns-in-Pointers : goal.returns-in-Pointers
returns-in-Pointers c = rw c.in-Pointers.is c.pointer_arms.ensures
