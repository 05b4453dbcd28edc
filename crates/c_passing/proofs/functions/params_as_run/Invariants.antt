use Rattle.std.proofs.Common.{List, ◌++◌, take, map}
use Rattle.c_tree.specs.Terms.{Variable}
use Rattle.c_tree.specs.Passed.{passed_param}
use Rattle.c_passing.specs.Routines.{written_variable, AreRun}
use Rattle.c_passing.proofs.functions.params_as_run.Given as goal

abbrev pub invariant-loop-v : goal.invariant-loop-v
invariant-loop-v l = (vs : List Variable) → AreRun l.whole l.initial.vars.items vs →
    AreRun l.whole l.vars.items (vs ++ map passed_param (map (written_variable l.whole) (take l.v-index l.params)))
