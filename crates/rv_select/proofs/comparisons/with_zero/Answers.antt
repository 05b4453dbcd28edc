use Rattle.std.proofs.Common.{◌≡◌, ℕ, List}
use Rattle.std.specs.Prelude.{Some}
use Rattle.rv_instr.specs.declared.instr.Instr.{Instr}
use Rattle.purecap_abi.proofs.Ranges.{on_ok}
use Rattle.select_words.specs.Operations.{compare_zero}
use Rattle.rv_select.specs.Choosing.{chosen}
use Rattle.rv_idioms.specs.Operations.{zero_code}
use Rattle.rv_select.proofs.Compared.{zero_form}
use Rattle.rv_emit.proofs.Appended.{puts_all}
use Rattle.rv_select.proofs.Formed.{of_one}
use Rattle.rv_select.proofs.comparisons.with_zero.Goals as goal

pub returns-clause-words : goal.returns-clause-words
returns-clause-words c =
    let a = c.args in
    let r = c.target-r.result in
    let x = c.in_ok-a.a in
    let Work = λ (q y : ℕ) (ws : List Instr). Some ws ≡ compare_zero a.op q y in
    on_ok c.keep.result _ _ c.keep.ensures.words
    (λ k h g. of_one (chosen a.f.now) a.to a.a Work a.code.now c.operand.new.code c.compare_zero.new.code
    c.keep.new.code r x c.left.result c.left.ensures (c.target-r.ensures h) (c.in_ok-a.ensures.words g)
    (puts_all (Work r x) c.operand.new.code c.compare_zero.new.code (zero_code a.op r x)
    c.in_ok-compare_zero.ensures.text (zero_form a.op r x c.requires))
    (k h))
