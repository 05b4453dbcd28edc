use Rattle.std.proofs.Common.{ap, pos, ◌++◌, ◌∷◌, [], ◌∙◌}
use Rattle.rv_instr.specs.declared.instr.Instr.{Instr}
use Rattle.rv_instr.specs.declared.instr.Instr.TheVariants.{Store}
use Rattle.rv_instr.specs.declared.ops.StoreOp.{StoreOp}
use Rattle.rv_select.specs.Choosing.{chosen}
use Rattle.rv_emit.proofs.Appended.{on_both}
use Rattle.rv_select.proofs.Accessed.{store_selected}
use Rattle.rv_select.proofs.memory.store.Goals as goal

pub returns-clause-words : goal.returns-clause-words
returns-clause-words c =
    let a = c.args in
    let x = c.in_ok-a.a in
    let y = c.in_ok-b.b in
    on_both c.put_at.result _ _ _ c.put_at.ensures.text c.put_at.ensures.links
    (λ e l h g. store_selected (chosen a.f.now) a.pos a.kind x a.code.now c.operand.new.code c.operand-2.new.code
    c.put_at.new.self a.at a.value y c.left.result c.right.result c.left.ensures c.right.ensures
    (c.in_ok-a.ensures.words h) c.in_ok-a.ensures.size.2 (c.in_ok-b.ensures.words g) c.in_ok-b.ensures.size.2
    (e ∙ ap (λ (i : Instr). c.operand-2.new.code.text ++ i ∷ []) (c.store.ensures.is
    ∙ ap (λ (o : StoreOp). Store o y x (pos 0)) c.store_op.ensures)) l)
