use Rattle.std.proofs.Common.{subst, sym}
use Rattle.purecap_abi.proofs.Ranges.{on_ok}
use Rattle.tac_ir.specs.declared.code.TacKind.{TacKind}
use Rattle.select_words.specs.Operations.{ConversionBy}
use Rattle.rv_select.specs.Choosing.{chosen}
use Rattle.rv_emit.specs.Growing.{Puts}
use Rattle.rv_select.proofs.conversions.conversion.Goals as goal

pub returns-in_default-Cap-clause-words : goal.returns-in_default-Cap-clause-words
returns-in_default-Cap-clause-words c =
    let a = c.args in
    on_ok c.copy.result _ _ c.copy.ensures.words
    (λ p t s g. subst
    (λ (k : TacKind). Puts (ConversionBy (chosen a.f.now) a.to a.from a.old k) a.code.now c.copy.new.code)
    (sym c.in_default-Cap.is-1) (p t s g))
