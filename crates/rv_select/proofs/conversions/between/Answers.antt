use Rattle.std.proofs.Common.{Bool, subst, sym, ◌∙◌}
use Rattle.purecap_abi.proofs.Ranges.{on_ok}
use Rattle.select_words.specs.Operations.{CopiedOr}
use Rattle.rv_select.specs.Choosing.{chosen}
use Rattle.rv_emit.specs.Growing.{Puts}
use Rattle.rv_select.proofs.conversions.between.Goals as goal

pub returns-then-is_widening-clause-words : goal.returns-then-is_widening-clause-words
returns-then-is_widening-clause-words c =
    let a = c.args in
    let wide = sym c.is_widening.ensures ∙ c.if-is_widening.true in
    on_ok c.copy.result _ _ c.copy.ensures.words
    (λ p t s g. subst (λ (b : Bool). Puts (CopiedOr (chosen a.f.now) a.to a.from a.new b) a.code.now c.copy.new.code)
    (sym wide) (p t s g))
