use mir.Val.{SFits}
use Rattle.std.proofs.Common.{ap, ◌∙◌, ◌++◌, [], ◌∷◌, pos, negsuc, w32, rules, arith}
use Rattle.std.proofs.lemmas.Int.{to_z-of_z}
use Rattle.rv_instr.specs.declared.instr.Instr.TheVariants.{Store, CapImm, Imm}
use Rattle.rv_instr.specs.declared.ops.CapImmOp.TheVariants.{Cincoffsetimm}
use Rattle.rv_instr.specs.declared.ops.ImmOp.TheVariants.{Addi}
use Rattle.rv_instr.specs.declared.ops.StoreOp.TheVariants.{Csc}
use Rattle.purecap_abi.proofs.Ranges.{on_ok}
use Rattle.rv_emit.specs.Growing.{Size}
use Rattle.rv_emit.proofs.Appended.{three_more}
use Rattle.rv_memory.proofs.Zeroes.{number_put, round_put}
use Rattle.rv_memory.proofs.memory.zero_loop.Goals as goal

pub returns-clause-words : goal.returns-clause-words
returns-clause-words c =
    let a = c.args in
    let v = c.number_of.result in
    let fits : SFits w32 v = search rules in
    let text = ap (λ (x : Size). x.text) c.open_loop.ensures.same in
    let first = c.in_ok-put.ensures.text ∙ ap (λ x. x ++ c.store.result ∷ []) text in
    let stores = c.store.ensures.is ∙ ap (λ r. Store Csc 0 r (pos 0)) c.left-2.ensures in
    let moves = c.advance.ensures.is ∙ ap (λ r. CapImm Cincoffsetimm r c.left-4.result (pos 16)) c.left-3.ensures
    ∙ ap (λ r. CapImm Cincoffsetimm 28 r (pos 16)) c.left-4.ensures in
    let counts = c.immediate.ensures.is ∙ ap (λ r. Imm Addi r c.right-3.result (negsuc 0)) c.right-2.ensures
    ∙ ap (λ r. Imm Addi 29 r (negsuc 0)) c.right-3.ensures in
    let body = three_more c.number.new.self.text c.put.new.self.text c.put-2.new.self.text c.put-3.new.self.text
    c.store.result c.advance.result c.immediate.result _ _ _ first c.in_ok-put-2.ensures.text c.in_ok-put-3.ensures.text
    stores moves counts in
    let top = c.in_ok-put-3.ensures.top ∙ c.in_ok-put-2.ensures.top ∙ c.in_ok-put.ensures.top
    ∙ c.open_loop.ensures.top in
    on_ok c.close_loop.result _ _ c.close_loop.ensures.led
    (λ l low some few. round_put a.at a.parts a.code.now c.moved.new.self c.number.new.self c.close_loop.new.self
    c.put-3.new.self.text c.put-3.new.self.top c.left.result c.right-4.result c.left.ensures c.right-4.ensures
    (c.in_ok-moved.ensures.text low)
    (number_put 29 c.right.result a.parts v _ c.moved.new.self c.number.new.self c.right.ensures (omega arith) few
    (to_z-of_z w32 v fits) c.number_of.ensures c.in_ok-number.ensures.text) top body l some)
