use Rattle.purecap_abi.proofs.Ranges.{on_ok}
use Rattle.rv_select.specs.Choosing.{chosen}
use Rattle.rv_select.proofs.Params.{stack_loaded}
use Rattle.rv_select.proofs.functions.stack_parameter.Goals as goal

pub returns-clause-words : goal.returns-clause-words
returns-clause-words c =
    let a = c.args in
    on_ok c.keep.result _ _ c.keep.ensures.words
    (λ keep least most t. stack_loaded (chosen a.f.now) a.k c.loaded_to-r.result c.stack_place.result c.left.result
    c.right.result a.code.now c.load_far.new.self c.keep.new.code (c.loaded_to-r.ensures t) c.left.ensures
    c.right.ensures (c.stack_place.ensures least most) most c.in_ok-load_far.ensures.text (keep t.chooses))
