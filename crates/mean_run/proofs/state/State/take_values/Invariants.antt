use Rattle.std.proofs.Common.{◌≡◌, ◌-◌, []}
use Rattle.std.specs.Prelude.{map, reverse}
use Rattle.obj_mem.specs.Values.{value_of}
use Rattle.mean_steps.specs.Machine.{beyond, turned}
use Rattle.mean_run.proofs.state.State.take_values.Given as goal

abbrev pub invariant-values : goal.invariant-values
invariant-values l = record {
  kept : l.self ≡ record l.fn.self { values = l.self.values };
  taken : turned l.count (map value_of l.fn.self.values) []
      ≡ turned (l.count - l.counter) (map value_of l.self.values) (map value_of (reverse l.values.items));
  left : beyond l.count (map value_of l.fn.self.values) ≡ beyond (l.count - l.counter) (map value_of l.self.values);
}
