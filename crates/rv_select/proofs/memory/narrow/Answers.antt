use Rattle.std.proofs.Common.{ap, refl, ◌∙◌}
use Rattle.rv_instr.specs.declared.instr.Instr.TheVariants.{CapReg}
use Rattle.rv_instr.specs.declared.ops.CapRegOp.{CapRegOp}
use Rattle.purecap_abi.proofs.Ranges.{on_ok}
use Rattle.select_words.specs.Capabilities.{exact_op, OneOfTwo}
use Rattle.select_words.specs.Forms.{Amounts}
use Rattle.rv_select.specs.Choosing.{chosen}
use Rattle.rv_emit.proofs.Appended.{puts_one}
use Rattle.rv_select.proofs.Formed.{of_two}
use Rattle.rv_select.proofs.memory.narrow.Goals as goal

pub returns-clause-words : goal.returns-clause-words
returns-clause-words c =
    let a = c.args in
    let s = chosen a.f.now in
    let r = c.target-r.result in
    let x = c.in_ok-a.a in
    let y = c.in_ok-b.b in
    on_ok c.keep.result _ _ c.keep.ensures.words
    (λ k h g n. of_two s a.to a.base (Amounts s a.length) (OneOfTwo (exact_op a.exact)) a.code.now c.operand.new.code
    c.amount.new.code c.put.new.self c.keep.new.code r x y c.left.result c.left.ensures (c.target-r.ensures h)
    (c.in_ok-a.ensures.words g) (c.in_ok-b.ensures.words n)
    (puts_one (OneOfTwo (exact_op a.exact) r x y) c.amount.new.code c.put.new.self c.of_two.result
    (CapReg (exact_op a.exact) r x y) c.in_ok-put.ensures.text
    (c.of_two.ensures.is ∙ ap (λ (o : CapRegOp). CapReg o r x y) c.exact_op.ensures) refl)
    (k h))
