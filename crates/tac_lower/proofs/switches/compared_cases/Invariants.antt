use Rattle.std.proofs.Common.{◌+◌, ◌*◌, take}
use Rattle.tac_lower.specs.Cases.{Compared, labels_as}
use Rattle.tac_emit.specs.Emitted.{IsOpen}
use Rattle.tac_lower.specs.Scenes.{Opened}
use Rattle.tac_emit.specs.Spent.{Spent}
use Rattle.tac_lower.specs.Statements.{labels_of, IsSwitched}
use Rattle.tac_lower.proofs.switches.compared_cases.Given as goal

abbrev pub invariant-loop-l : goal.invariant-loop-l
invariant-loop-l l = record {
  opened : Opened l.cx.p.now l.cx.d.now l.cx.types.now l.cx.homes.now l.fn.out l.out (labels_of l.cases.items)
      (l.l-index + 2);
  spent : Spent l.fn.out l.out 2 (27 * l.l-index);
  switched : IsSwitched l.out l.switched;
  otherwise : IsOpen l.out l.otherwise;
  is : Compared (labels_as (take l.l-index l.fn.labels)) l.fn.kind l.fn.temp l.fn.end l.switched l.otherwise
      l.cases.items
      l.fn.out l.out;
}
