use Rattle.std.proofs.Common.{arith}
use Rattle.purecap_abi.proofs.Ranges.{on_ok}
use Rattle.rv_select.proofs.KindCosts.{load_least}
use Rattle.rv_select.proofs.functions.access.Goals as goal

pub load-requires : goal.load-requires
load-requires c =
    let h = load_least c.in-Load.kind in
    let r = rw c.in-Load.is at c.requires.room in
    omega (arith, h, r)

pub returns-in-Load-clause-words : goal.returns-in-Load-clause-words
returns-in-Load-clause-words c =
    rw c.in-Load.is (on_ok c.load.result _ _ c.load.ensures.words (λ words s. words s.0.chooses s.1))

pub returns-in-Store-clause-words : goal.returns-in-Store-clause-words
returns-in-Store-clause-words c =
    rw c.in-Store.is (on_ok c.store.result _ _ c.store.ensures.words (λ words s. words s.0 s.1))

pub returns-in-CopyUnits-clause-words : goal.returns-in-CopyUnits-clause-words
returns-in-CopyUnits-clause-words c =
    rw c.in-CopyUnits.is
    (on_ok c.copy_units.result _ _ c.copy_units.ensures.words (λ words s. words s.0 s.1 s.2 s.3))
