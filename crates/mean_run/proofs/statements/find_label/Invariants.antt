use Rattle.std.proofs.Common.{◌≡◌, drop}
use Rattle.obj_mem.specs.Values.{value_of}
use Rattle.cheri_c_sem.specs.Modes.{Store}
use Rattle.cheri_c_sem.specs.Statements.{default_of}
use Rattle.mean_types.specs.Views.{kind_of}
use Rattle.mean_steps.specs.Parts.{Now, find_label}
use Rattle.mean_run.specs.Labels.{labels_of}
use Rattle.mean_run.proofs.statements.find_label.Given as goal

abbrev pub invariant-labels : goal.invariant-labels
invariant-labels g l =
    let ops = g.B.Operations.meaning l.m in
    (n : Now Store) → n.mem ≡ g.B.Operations.held l.m →
    find_label ops l.pos (kind_of l.kind) (value_of l.v) (labels_of l.labels)
    (default_of (labels_of l.labels)) n
    ≡ find_label ops l.pos (kind_of l.kind) (value_of l.v) (labels_of (drop l.l-index l.labels))
    (default_of (labels_of l.labels)) n
