use Rattle.std.proofs.Common.{◌≡◌, ℕ, List, refl, subst}
use Rattle.rv_instr.specs.declared.instr.Instr.{Instr}
use Rattle.purecap_abi.proofs.Ranges.{on_ok}
use Rattle.select_words.specs.Emitted.{Operand}
use Rattle.select_words.specs.Forms.{Other}
use Rattle.select_words.specs.Operations.{compare_code}
use Rattle.rv_select.specs.Choosing.{chosen}
use Rattle.rv_emit.specs.Growing.{Puts}
use Rattle.rv_emit.proofs.Appended.{puts_all}
use Rattle.rv_select.proofs.Formed.{of_two}
use Rattle.rv_select.proofs.comparisons.of_registers.Goals as goal

pub returns-clause-words : goal.returns-clause-words
returns-clause-words c =
    let a = c.args in
    let s = chosen a.f.now in
    let r = c.target-r.result in
    let x = c.in_ok-a.a in
    let y = c.in_ok-b.b in
    let found = c.operand.new.code in
    let second = c.operand-2.new.code in
    let Work = λ (q u v : ℕ) (ws : List Instr). ws ≡ compare_code a.op a.signed q u v in
    on_ok c.keep.result _ _ c.keep.ensures.words
    (λ k h g n. of_two s a.to a.a (Other s a.b) Work a.code.now found second c.compare.new.code c.keep.new.code r x y
    c.left.result c.left.ensures (c.target-r.ensures h) (c.in_ok-a.ensures.words g)
    (subst (λ (z : ℕ). Puts (λ ws. Operand s a.b z ws y) found second) c.right.ensures (c.in_ok-b.ensures.words n))
    (puts_all (Work r x y) second c.compare.new.code (compare_code a.op a.signed r x y) c.in_ok-compare.ensures.text
    refl) (k h))
