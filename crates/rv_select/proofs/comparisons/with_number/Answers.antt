use Rattle.std.proofs.Common.{◌≡◌, ℕ, ℤ, List, ◌++◌, ap, ◌∙◌, w32}
use Rattle.std.specs.Prelude.{Some}
use Rattle.std.proofs.lemmas.Int.{to_z-of_z}
use Rattle.rv_instr.specs.declared.instr.Instr.{Instr}
use Rattle.purecap_abi.proofs.Ranges.{on_ok}
use Rattle.select_words.specs.Operations.{compare_number}
use Rattle.rv_select.specs.Choosing.{chosen}
use Rattle.rv_idioms.specs.Operations.{number_code}
use Rattle.rv_select.proofs.Compared.{number_form}
use Rattle.rv_emit.proofs.Appended.{puts_all}
use Rattle.rv_select.proofs.Formed.{of_one}
use Rattle.rv_select.proofs.comparisons.with_number.Goals as goal

pub returns-clause-words : goal.returns-clause-words
returns-clause-words c =
    let a = c.args in
    let r = c.target-r.result in
    let x = c.in_ok-a.a in
    let z = a.number in
    let Work = λ (q y : ℕ) (ws : List Instr). Some ws ≡ compare_number a.op a.signed z q y in
    on_ok c.keep.result _ _ c.keep.ensures.words
    (λ k h g. of_one (chosen a.f.now) a.to a.a Work a.code.now c.operand.new.code c.compare_number.new.code
    c.keep.new.code r x c.left.result c.left.ensures (c.target-r.ensures h) (c.in_ok-a.ensures.words g)
    (puts_all (Work r x) c.operand.new.code c.compare_number.new.code (number_code a.op a.signed z r x)
    (c.in_ok-compare_number.ensures.text
    ∙ ap (λ (y : ℤ). c.operand.new.code.text ++ number_code a.op a.signed y r x) (to_z-of_z w32 z c.ranges.number))
    (number_form a.op a.signed z r x c.requires.takes))
    (k h))
