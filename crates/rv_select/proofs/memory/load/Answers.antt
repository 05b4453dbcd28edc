use Rattle.rv_emit.proofs.Appended.{on_both}
use Rattle.rv_select.specs.Choosing.{chosen}
use Rattle.rv_select.proofs.Accessed.{load_selected}
use Rattle.rv_select.proofs.memory.load.Goals as goal

pub returns-clause-words : goal.returns-clause-words
returns-clause-words c =
    let a = c.args in
    on_both c.keep.result _ _ _ c.keep.ensures.words c.keep.ensures.size
    (λ k size h g. load_selected (chosen a.f.now) a.pos a.kind c.in_ok-a.a a.code.now c.operand.new.code
    c.load_words.new.code c.keep.new.code a.to a.from c.target-r.result c.left.result c.left.ensures
    (c.target-r.ensures h) (c.in_ok-a.ensures.words g) c.in_ok-a.ensures.size.2
    c.in_ok-load_words.ensures.text c.in_ok-load_words.ensures.links (k h) size.2)
