use Rattle.std.proofs.Common.{ap, refl, ◌∙◌}
use Rattle.rv_instr.specs.declared.instr.Instr.TheVariants.{CapGet, CapReg}
use Rattle.purecap_abi.proofs.Ranges.{on_ok}
use Rattle.select_words.specs.Capabilities.{OneOfOne, OneOfTwo, Seconds, intrinsic_of}
use Rattle.rv_select.specs.Choosing.{chosen}
use Rattle.rv_emit.specs.Growing.{Size}
use Rattle.rv_emit.proofs.Appended.{puts_one}
use Rattle.rv_select.proofs.Formed.{of_one, of_two, intrinsic_one, intrinsic_two}
use Rattle.rv_select.proofs.memory.capability.Goals as goal
use Rattle.rv_select.proofs.memory.capability.Goals.{in-OfOne+in_ok-put-in-OfOne}
use Rattle.rv_select.proofs.memory.capability.Goals.{in-OfTwo+in_ok-b-in-OfTwo+in_ok-put-in-OfTwo}

pub returns-clause-words : goal.returns-clause-words
returns-clause-words c =
    let a = c.args in
    let s = chosen a.f.now in
    let r = c.target-r.result in
    let x = c.in_ok-a.a in
    let found = c.operand.new.code in
    let mid = c.match-instruction_of.code in
    on_ok c.keep.result _ _ c.keep.ensures.words
    (λ k h g n. elim c.match-instruction_of.branch [
      | in-OfOne+in_ok-put-in-OfOne w ↦
          intrinsic_one s a.to a.a a.b a.code.now c.keep.new.code
          (intrinsic_of a.op) w.in-OfOne.op w.in-OfOne.ensures.is
          (of_one s a.to a.a (OneOfOne w.in-OfOne.op) a.code.now found mid c.keep.new.code r x c.left.result
          c.left.ensures
          (c.target-r.ensures h) (c.in_ok-a.ensures.words g)
          (puts_one (OneOfOne w.in-OfOne.op r x) found mid w.of_one.result (CapGet w.in-OfOne.op r x)
          (ap (λ (m : Size). m.text) w.code-is ∙ w.in_ok-put-in-OfOne.ensures.text) w.of_one.ensures.is refl) (k h))
      | in-OfTwo+in_ok-b-in-OfTwo+in_ok-put-in-OfTwo w ↦
          intrinsic_two s a.to a.a a.b a.code.now c.keep.new.code
          (intrinsic_of a.op) w.in-OfTwo.op w.in-OfTwo.ensures.is
          (of_two s a.to a.a (Seconds s a.b) (OneOfTwo w.in-OfTwo.op) a.code.now found w.second.new.code mid
          c.keep.new.code r x w.in_ok-b-in-OfTwo.b c.left.result c.left.ensures (c.target-r.ensures h)
          (c.in_ok-a.ensures.words g) (w.in_ok-b-in-OfTwo.ensures.words n)
          (puts_one (OneOfTwo w.in-OfTwo.op r x w.in_ok-b-in-OfTwo.b) w.second.new.code mid w.of_two.result
          (CapReg w.in-OfTwo.op r x w.in_ok-b-in-OfTwo.b)
          (ap (λ (m : Size). m.text) w.code-is ∙ w.in_ok-put-in-OfTwo.ensures.text) w.of_two.ensures.is refl) (k h))
    ])
