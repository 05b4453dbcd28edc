use Rattle.std.proofs.Common.{◌≡◌, ◌-◌, ◌*◌}
use Rattle.obj_mem.specs.Values.{value_of}
use Rattle.cheri_c_sem.specs.Meaning.{At}
use Rattle.mean_steps.specs.Parts.{copy_units}
use Rattle.tac_run.specs.Holdings.{ops_of}
use Rattle.tac_run.specs.Views.{now_of}
use Rattle.tac_run.proofs.state.State.copy_units.Given as goal

abbrev pub invariant-units : goal.invariant-units
invariant-units l = record {
  under : l.self.memory.map ≡ l.fn.self.memory.map;
  copied :
      copy_units (ops_of l.fn.self.memory) (l.count - l.done) l.unit (l.done * l.unit)
      (At l.positions.0 (value_of l.from)) (At l.positions.1 (value_of l.to)) (now_of l.self)
      ≡ copy_units (ops_of l.fn.self.memory) l.count l.unit 0 (At l.positions.0 (value_of l.from))
      (At l.positions.1 (value_of l.to)) (now_of l.fn.self);
}
