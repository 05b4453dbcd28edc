use Rattle.std.proofs.Common.{◌*◌, take}
use Rattle.tac_lower.specs.Parts.{entered}
use Rattle.tac_lower.specs.Scenes.{Lowered}
use Rattle.tac_emit.specs.Spent.{Enters}
use Rattle.tac_lower.specs.Zeroed.{zeroed}
use Rattle.tac_lower.specs.Stating.{ShowsEntered, routine}
use Rattle.tac_lower.proofs.statements.enter.Given as goal

abbrev pub invariant-loop-x : goal.invariant-loop-x
invariant-loop-x l = record {
  lowered : Lowered l.cx.p.now l.cx.d.now l.cx.types.now l.cx.homes.now l.fn.out l.out 0;
  spent : Enters l.fn.out l.out 0 (19 * entered l.cx.d.now (take l.x-index l.vars)) 0
      (zeroed l.cx.d.now l.cx.homes.now (take l.x-index l.vars));
  is : ShowsEntered (routine l.cx) (take l.x-index l.vars) l.fn.out l.out;
}
