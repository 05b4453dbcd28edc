use mir.Val.{SFits}
use Rattle.std.proofs.Common.{◌%◌, ◌^◌, ap, ◌∙◌, subst, sym, w32, rules}
use Rattle.std.proofs.lemmas.Int.{to_z-of_z}
use Rattle.purecap_abi.proofs.Ranges.{on_ok}
use Rattle.rv_instr.specs.Range.{count_bits}
use Rattle.rv_instr.specs.declared.instr.Instr.TheVariants as word
use Rattle.rv_select.specs.Choosing.{chosen}
use Rattle.rv_emit.specs.Growing.{Puts}
use Rattle.rv_select.specs.Planning.{ChoosesWork, WorkWord}
use Rattle.rv_select.specs.declared.operations.Work.{Work}
use Rattle.rv_select.proofs.Planned.{one_word, two_word}
use Rattle.rv_select.proofs.operations.compute.Goals as goal

pub returns-in_ok-b-in-Registers-clause-words : goal.returns-in_ok-b-in-Registers-clause-words
returns-in_ok-b-in-Registers-clause-words c =
    let a = c.args in
    let s = chosen a.f.now in
    let w = c.in-Registers in
    on_ok c.put.result _ _ c.put.ensures.text
    (λ t h.
    let both = subst (ChoosesWork a.f.now) w.is h in
    subst (λ (v : Work). Puts (WorkWord s v a.r) a.code.now c.put.new.self) (sym w.is)
    (two_word s w.a a.code.now c.operand.new.code w.b c.in_ok-a-in-Registers.a c.in_ok-b-in-Registers.b c.left.result
    c.right.result c.operand-in-Registers.new.code c.put.new.self (word.Op w.op a.r) c.operation.result c.left.ensures
    c.right.ensures (c.in_ok-a-in-Registers.ensures.words both.0) (c.in_ok-b-in-Registers.ensures.words both.1) t
    c.operation.ensures.is))

pub returns-in_ok-a-in-Immediate-clause-words : goal.returns-in_ok-a-in-Immediate-clause-words
returns-in_ok-a-in-Immediate-clause-words c =
    let a = c.args in
    let s = chosen a.f.now in
    let w = c.in-Immediate in
    let z = w.number in
    let x = c.in_ok-a-in-Immediate.a in
    let fits : SFits w32 z = search rules in
    on_ok c.put-in-Immediate.result _ _ c.put-in-Immediate.ensures.text
    (λ t h. subst (λ (v : Work). Puts (WorkWord s v a.r) a.code.now c.put-in-Immediate.new.self) (sym w.is)
    (one_word s w.a a.code.now c.operand-in-Immediate.new.code x c.left-in-Immediate.result c.put-in-Immediate.new.self
    (λ y. word.Imm w.op a.r y z) c.immediate.result c.left-in-Immediate.ensures
    (c.in_ok-a-in-Immediate.ensures.words (subst (ChoosesWork a.f.now) w.is h)) t
    (c.immediate.ensures.is ∙ ap (word.Imm w.op a.r x) (to_z-of_z w32 z fits))))

pub returns-in_ok-a-in-Shift-clause-words : goal.returns-in_ok-a-in-Shift-clause-words
returns-in_ok-a-in-Shift-clause-words c =
    let a = c.args in
    let s = chosen a.f.now in
    let w = c.in-Shift in
    on_ok c.put-in-Shift.result _ _ c.put-in-Shift.ensures.text
    (λ t h. subst (λ (v : Work). Puts (WorkWord s v a.r) a.code.now c.put-in-Shift.new.self) (sym w.is)
    (one_word s w.a a.code.now c.operand-in-Shift.new.code c.in_ok-a-in-Shift.a c.left-in-Shift.result
    c.put-in-Shift.new.self (λ y. word.Shift w.op a.r y (w.count % 2 ^ count_bits w.op)) c.shift.result
    c.left-in-Shift.ensures (c.in_ok-a-in-Shift.ensures.words (subst (ChoosesWork a.f.now) w.is h)) t
    c.shift.ensures.is))
