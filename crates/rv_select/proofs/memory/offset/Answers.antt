use mir.Val.{SFits}
use Rattle.std.proofs.Common.{ℤ, subst, sym, w32, to_z, of_z, rules}
use Rattle.std.proofs.lemmas.Int.{to_z-of_z}
use Rattle.purecap_abi.proofs.Ranges.{on_ok}
use Rattle.rv_select.specs.Choosing.{chosen}
use Rattle.rv_select.specs.Work.{IsAmount}
use Rattle.rv_select.proofs.Formed.{offset_of}
use Rattle.rv_select.proofs.memory.offset.Goals as goal

pub returns-in-Some-clause-words : goal.returns-in-Some-clause-words
returns-in-Some-clause-words c =
    let a = c.args in
    let v = c.in-Some.bytes in
    let fits : SFits w32 v = search rules in
    let z = to_z w32 (of_z w32 v) in
    on_ok c.offset_near.result _ _ c.offset_near.ensures.words
    (λ p h g n. offset_of (chosen a.f.now) a.to a.base a.by z a.code.now c.offset_near.new.code
    (subst (λ (x : ℤ). IsAmount (chosen a.f.now) a.by x) (sym (to_z-of_z w32 v fits)) c.in-Some.ensures.is) (p h g))
