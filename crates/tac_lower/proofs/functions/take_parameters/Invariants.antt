use Rattle.std.proofs.Common.{◌≡◌, ◌*◌, take}
use Rattle.tac_lower.specs.Scenes.{Lowered}
use Rattle.tac_lower.specs.Programs.{taking}
use Rattle.tac_emit.specs.Adding.{Emits}
use Rattle.tac_lower.specs.Signed.{kept_parameter}
use Rattle.tac_emit.specs.Spent.{Enters}
use Rattle.tac_lower.specs.Zeroed.{taken}
use Rattle.tac_lower.proofs.functions.take_parameters.Given as goal

abbrev pub invariant-loop-x : goal.invariant-loop-x
invariant-loop-x l = record {
  lowered : Lowered l.cx.p.now l.d l.cx.types.now l.cx.homes.now l.fn.out l.out 0;
  spent : Enters l.fn.out l.out 0 (26 * l.x-index) 0 (taken l.cx.homes.now (take l.x-index l.d.params));
  number : l.t ≡ l.x-index;
  takes : Emits l.fn.out l.out 0 (taking l.cx.homes.now (kept_parameter l.cx.p.now l.d) l.d.pos
      (take l.x-index l.d.params) 0);
}
