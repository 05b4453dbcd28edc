use Rattle.std.proofs.Common.{◌≡◌}
use Rattle.cheri_c_sem.specs.Types.{objects_before}
use Rattle.mean_run.proofs.Counts.{Counted}
use Rattle.mean_run.proofs.locals.counts_of.Given as goal

abbrev pub invariant-vars : goal.invariant-vars
invariant-vars l = record {
  counted : Counted l.vars l.counts.items l.v-index;
  before : l.before ≡ objects_before l.vars l.v-index;
}
