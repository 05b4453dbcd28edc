use Rattle.std.proofs.Common.{◌-◌, length}
use Rattle.tac_lower.specs.Cases.{StandSo}
use Rattle.tac_emit.specs.Spent.{Spent}
use Rattle.tac_lower.specs.Statements.{labels_of, StandUpTo}
use Rattle.tac_lower.proofs.switches.Cases.stand_behind.Given as goal

abbrev pub invariant-loop-c : goal.invariant-loop-c
invariant-loop-c l = record {
  stand : StandUpTo (labels_of l.self.cases.items) l.first l.at l.fn.out l.out;
  spent : Spent l.fn.out l.out 0 0;
  so_far : StandSo (λ cs. cs) l.self.cases.items l.first l.at l.fn.out l.out;
}

abbrev pub decreases-loop-c : goal.decreases-loop-c
decreases-loop-c l = length l.self.cases.items - l.at
