use Rattle.std.proofs.Common.{arith, ◌∙◌}
use Rattle.purecap_abi.proofs.Ranges.{on_ok}
use Rattle.rv_select.specs.Choosing.{chosen}
use Rattle.rv_select.proofs.Choices.{copied_brought, copied_kept}
use Rattle.rv_select.proofs.operations.copy.Goals as goal

pub returns-in-Register-clause-words : goal.returns-in-Register-clause-words
returns-in-Register-clause-words c =
    let a = c.args in
    on_ok c.bring.result _ _ c.bring.ensures.words
    (λ b h stands g. copied_brought (chosen a.f.now) a.to a.code.now a.code.now c.bring.new.code a.from c.in-Register.r
    c.register.result h.reached (c.in-Register.ensures h.homed) c.register.ensures (λ lt. b lt g))

pub returns-in_ok-r-in_default : goal.returns-in_ok-r-in_default
returns-in_ok-r-in_default c =
    let a = c.args in
    let o = c.in_ok-r-in_default.ensures in
    record {
      size = on_ok c.keep.result _ _ c.keep.ensures.size
          (λ k. let p = o.size in (omega (arith, k, p), omega (arith, k, p), k.2 ∙ p.2));
      words = on_ok c.keep.result _ _ c.keep.ensures.words
          (λ k h stands g. copied_kept (chosen a.f.now) a.to a.code.now c.operand.new.code c.keep.new.code a.from
          c.in_ok-r-in_default.r c.left.result c.place.result (c.place.ensures h.homed) c.in_default.not-Register stands
          c.left.ensures (o.words g) (k h));
    }
