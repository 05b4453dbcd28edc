use Rattle.std.proofs.Common.{refl}
use Rattle.purecap_abi.proofs.Ranges.{on_ok}
use Rattle.select_words.specs.Operations.{Reduces, kept_code}
use Rattle.rv_select.specs.Choosing.{chosen}
use Rattle.rv_emit.proofs.Appended.{puts_all}
use Rattle.rv_select.proofs.Formed.{of_one}
use Rattle.rv_select.proofs.conversions.reduced.Goals as goal

pub returns-clause-words : goal.returns-clause-words
returns-clause-words c =
    let a = c.args in
    let r = c.target-r.result in
    let x = c.in_ok-a.a in
    on_ok c.keep.result _ _ c.keep.ensures.words
    (λ k h g. of_one (chosen a.f.now) a.to a.from (Reduces a.kind) a.code.now c.operand.new.code c.keep_bits.new.code
    c.keep.new.code r x c.left.result c.left.ensures (c.target-r.ensures h) (c.in_ok-a.ensures.words g)
    (puts_all (Reduces a.kind r x) c.operand.new.code c.keep_bits.new.code (kept_code a.kind r x)
    c.in_ok-keep_bits.ensures.text refl)
    (k h))
