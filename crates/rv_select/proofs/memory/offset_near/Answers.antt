use Rattle.std.proofs.Common.{ap, refl, ◌∙◌, w32}
use Rattle.std.proofs.lemmas.Int.{to_z-of_z}
use Rattle.cap_machine.specs.Integers.{extended}
use Rattle.rv_instr.specs.declared.instr.Instr.TheVariants.{CapImm}
use Rattle.rv_instr.specs.declared.ops.CapImmOp.TheVariants.{Cincoffsetimm}
use Rattle.purecap_abi.proofs.Ranges.{on_ok}
use Rattle.select_words.specs.Capabilities.{Advance}
use Rattle.rv_select.specs.Choosing.{chosen}
use Rattle.rv_emit.proofs.Appended.{puts_one}
use Rattle.rv_select.proofs.Formed.{of_one}
use Rattle.rv_select.proofs.memory.offset_near.Goals as goal

pub returns-clause-words : goal.returns-clause-words
returns-clause-words c =
    let a = c.args in
    let r = c.target-r.result in
    let x = c.in_ok-a.a in
    let n = extended a.bytes in
    on_ok c.keep.result _ _ c.keep.ensures.words
    (λ k h g. of_one (chosen a.f.now) a.to a.base (Advance n) a.code.now c.operand.new.code c.put.new.self
    c.keep.new.code r x c.left.result c.left.ensures (c.target-r.ensures h) (c.in_ok-a.ensures.words g)
    (puts_one (Advance n r x) c.operand.new.code c.put.new.self c.advance.result (CapImm Cincoffsetimm r x a.bytes)
    c.in_ok-put.ensures.text
    (c.advance.ensures.is ∙ ap (CapImm Cincoffsetimm r x) (to_z-of_z w32 a.bytes c.ranges.bytes))
    (a.bytes, refl, refl))
    (k h))
