use Rattle.std.proofs.Common.{◌≡◌, ◌-◌, drop, length}
use Rattle.tac_lower.specs.Cases.{StandSo, up_to, past}
use Rattle.tac_emit.specs.Spent.{Spent}
use Rattle.tac_lower.specs.Statements.{labels_of, StandUpTo}
use Rattle.tac_lower.proofs.switches.Cases.stand_at.Given as goal

abbrev pub invariant-loop-c : goal.invariant-loop-c
invariant-loop-c l = record {
  stand : StandUpTo (labels_of l.self.cases.items) l.first l.at l.fn.out l.out;
  spent : Spent l.fn.out l.out 0 0;
  so_far : StandSo (up_to l.before) l.self.cases.items l.first l.at l.fn.out l.out;
  left : past l.before (drop l.first l.self.cases.items) ≡ past l.before (drop l.at l.self.cases.items);
}

abbrev pub decreases-loop-c : goal.decreases-loop-c
decreases-loop-c l = length l.self.cases.items - l.at
