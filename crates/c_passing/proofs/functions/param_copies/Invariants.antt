use Rattle.std.proofs.Common.{◌≡◌, ◌+◌, take, map, length}
use Rattle.std.specs.Prelude.{flat_map}
use Rattle.c_tree.specs.Passed.{copied_param}
use Rattle.c_passing.specs.Routines.{source_variable, AreParamCopies}
use Rattle.c_passing.proofs.functions.param_copies.Given as goal

abbrev pub invariant-loop-v : goal.invariant-loop-v
invariant-loop-v l =
    let vs = map (source_variable l.source) (take l.v-index l.params) in
    record {
      from : l.from ≡ l.first + l.v-index;
      to : l.to ≡ l.local + length (flat_map copied_param vs);
      are : AreParamCopies l.source l.initial.out l.out l.first l.local vs l.initial.body.items l.body.items;
    }
