use Rattle.std.proofs.Common.{◌≡◌, None, replicate}
use Rattle.mean_run.proofs.calls.no_values.Given as goal

abbrev pub invariant-values : goal.invariant-values
invariant-values l = l.variables.items ≡ replicate l.counter None
