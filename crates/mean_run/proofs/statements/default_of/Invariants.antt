use Rattle.std.proofs.Common.{◌≡◌, drop}
use Rattle.cheri_c_sem.specs.Statements.{default_of}
use Rattle.mean_run.specs.Labels.{labels_of}
use Rattle.mean_run.proofs.statements.default_of.Given as goal

abbrev pub invariant-labels : goal.invariant-labels
invariant-labels l = default_of (labels_of l.labels) ≡ default_of (labels_of (drop l.l-index l.labels))
