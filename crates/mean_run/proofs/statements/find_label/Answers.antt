use Rattle.std.proofs.Common.{None, Ok, false, get_or, subst, sym, ◌∙◌, arith}
use Rattle.c_tree.specs.declared.typed.SwitchLabel.{SwitchLabel}
use Rattle.obj_mem.specs.Values.{value_of}
use Rattle.cheri_c_sem.specs.Statements.{default_of}
use Rattle.mean_types.specs.Views.{kind_of}
use Rattle.mean_run.specs.Labels.{IsAt, labels_of}
use Rattle.mean_run.proofs.Stating.{no_label}
use Rattle.mean_run.proofs.statements.find_label.Goals as goal

pub labels-preserved : goal.labels-preserved
labels-preserved g c = λ n e.
    let ops = g.B.Operations.meaning c.args.m.now in
    let labels = c.args.labels.now in
    let none : SwitchLabel = record { value = None; before = 0 } in
    let v = value_of c.args.v in
    let k = kind_of c.args.kind in
    c.labels.invariant n e ∙ no_label ops c.args.pos k v labels c.labels.l-index none (omega arith)
    (default_of (labels_of labels)) n (subst (λ m. IsAt ops c.args.pos k v m
    (get_or labels c.labels.l-index none).value (Ok false)) (sym e)
    (rw c.in-Ok-false.field-0-test at c.in-Ok-false.ensures))
