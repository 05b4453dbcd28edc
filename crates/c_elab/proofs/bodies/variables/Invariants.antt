use Rattle.std.proofs.Common.{◌≡◌, map, take}
use Rattle.std.specs.Prelude.{All}
use Rattle.c_elab.specs.Functions.{VariableThere, variable_seen, variables_from}
use Rattle.c_elab.proofs.bodies.variables.Given as goal

abbrev pub invariant-loop-v : goal.invariant-loop-v
invariant-loop-v l = record {
  count : l.k ≡ l.v-index;
  there : All (VariableThere l.work) l.all.items;
  are : map (variable_seen l.work) l.all.items
      ≡ map (variable_seen l.work) (variables_from l.work 0 (take l.v-index l.locals));
}
