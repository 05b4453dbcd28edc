use Rattle.std.proofs.Common.{◌≡◌, ◌-◌, List, []}
use Rattle.std.specs.Prelude.{map}
use Rattle.obj_mem.specs.Values.{Value, value_of}
use Rattle.cheri_c_sem.specs.Meaning.{first_of, second_of}
use Rattle.mean_steps.specs.Machine.{beyond, turned}
use Rattle.mean_run.proofs.state.State.take_arguments.Given as goal

abbrev pub invariant-values : goal.invariant-values
invariant-values l = record {
  kept : l.self ≡ record l.fn.self { values = l.self.values };
  taken : (others : List Value) × (value_of l.first ≡ first_of others) × (value_of l.second ≡ second_of others) ×
      (turned l.count (map value_of l.fn.self.values) []
      ≡ turned (l.count - l.counter) (map value_of l.self.values) others);
  left : beyond l.count (map value_of l.fn.self.values) ≡ beyond (l.count - l.counter) (map value_of l.self.values);
}
