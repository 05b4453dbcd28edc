use mir.Val.{SFits}
use Rattle.std.proofs.Common.{ℤ, ◌%◌, ◌^◌, w32, rules, ap, sym, ◌∙◌}
use Rattle.std.proofs.lemmas.Int.{to_z-of_z}
use Rattle.ck_int.specs.Kinds.{form_of, width_of}
use Rattle.cap_machine.specs.Integers.{extended}
use Rattle.rv_instr.specs.Range.{count_bits}
use Rattle.rv_instr.specs.declared.ops.ShiftOp.{ShiftOp}
use Rattle.select_words.specs.Operations.{shift_by}
use Rattle.rv_select.specs.declared.operations.Work.TheVariants.{Shift}
use Rattle.rv_select.specs.Planning.{Shifted}
use Rattle.rv_select.proofs.Planned.{counted}
use Rattle.rv_select.proofs.operations.shift.Goals as goal

pub returns-clause-is : goal.returns-clause-is
returns-clause-is c = λ h.
    let a = c.args in
    let v = c.in_ok-number.number in
    let m = c.count_of.result in
    let fits : SFits w32 v = search rules in
    let count = c.count_of.ensures h
    ∙ ap (λ (z : ℤ). extended z % width_of (form_of a.kind)) (to_z-of_z w32 v fits) in
    Shifted (extended v) m c.requires (sym c.in_ok-number.ensures)
    (ap (λ n. n % 2 ^ count_bits (shift_by a.kind a.op)) count ∙ counted a.kind a.op (extended v) h c.requires)
    (ap (λ (i : ShiftOp). Shift i a.a m) (c.shift_op.ensures h))
