use Rattle.rv_select.specs.Choosing.{chosen}
use Rattle.rv_select.proofs.Branched.{branch_selected}
use Rattle.rv_select.proofs.comparisons.branch.Goals as goal

pub returns-clause-words : goal.returns-clause-words
returns-clause-words c = λ h.
    let a = c.args in
    branch_selected (chosen a.f.now) a.on a.when a.label a.code.now c.operand.new.code c.branch-code.new.self
    c.jump.new.self c.land.new.self c.inverted.result c.in_ok-r.r c.in_ok-over.over c.left.result c.left.ensures
    (c.in_ok-r.ensures.words h) c.in_ok-r.ensures.size.2 c.inverted.ensures c.in_ok-over.ensures.at
    c.in_ok-over.ensures.text c.in_ok-over.ensures.size.1 c.in_ok-jump.ensures.text c.in_ok-jump.ensures.links
    c.land.ensures.led c.land.ensures.size.1
