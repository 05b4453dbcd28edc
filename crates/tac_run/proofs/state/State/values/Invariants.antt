use Rattle.std.proofs.Common.{◌≡◌, map, take}
use Rattle.obj_mem.specs.Values.{value_of}
use Rattle.tac_steps.specs.Machine.{value_in}
use Rattle.tac_run.specs.Views.{now_of}
use Rattle.tac_run.proofs.state.State.values.Given as goal

abbrev pub invariant-temps : goal.invariant-temps
invariant-temps l = map value_of l.values.items ≡ map (value_in (now_of l.self)) (take l.t-index l.args)
