use Rattle.std.proofs.Common.{◌≡◌, ◌-◌, ◌≤◌, length, drop}
use Rattle.c_phrases.specs.Got.{in_force}
use Rattle.c_phrases.proofs.names.TypeNames.truncate.Given as goal

abbrev pub invariant-loop-self : goal.invariant-loop-self
invariant-loop-self l = record {
  rest : in_force l.self ≡ drop (length (in_force l.fn.self) - length (in_force l.self)) (in_force l.fn.self);
  enough : l.count ≤ length (in_force l.fn.self) → l.count ≤ length (in_force l.self);
  fewer : length (in_force l.self) ≤ length (in_force l.fn.self);
}

abbrev pub decreases-loop-self : goal.decreases-loop-self
decreases-loop-self l = length (in_force l.self)
