use mir.Val.{SFits}
use Rattle.std.proofs.Common.{◌<◌, ap, ◌∙◌, ◌++◌, negsuc, length, w32, rules, arith}
use Rattle.std.proofs.lemmas.Int.{to_z-of_z}
use Rattle.rv_instr.specs.declared.instr.Instr.TheVariants.{Imm}
use Rattle.rv_instr.specs.declared.ops.ImmOp.TheVariants.{Addi}
use Rattle.select_words.specs.Copying.{unit_words}
use Rattle.rv_emit.specs.Growing.{Size, both_trapping}
use Rattle.rv_emit.proofs.Appended.{on_both}
use Rattle.rv_memory.proofs.Zeroes.{number_put}
use Rattle.rv_idioms.proofs.Copied.{unit_again, advance_is, body_put, round_copied}
use Rattle.rv_idioms.proofs.memory.copy_loop.Goals as goal

pub returns-clause-words : goal.returns-clause-words
returns-clause-words c =
    let a = c.args in
    let v = c.number_of.result in
    let fits : SFits w32 v = search rules in
    let text = ap (λ (x : Size). x.text) c.open_loop.ensures.same in
    let unit = c.in_ok-copy_unit.ensures.text ∙ ap (λ x. x ++ unit_words a.unit) text in
    let small : a.unit < 256 = search rules in
    let left = advance_is 28 c.left.result c.left-2.result a.unit _ c.advance.result c.advance.ensures.is c.left.ensures
    c.left-2.ensures (unit_again c.from.result a.unit c.from.ensures small) in
    let right = advance_is 29 c.right.result c.right-2.result a.unit _ c.advance-2.result c.advance-2.ensures.is
    c.right.ensures c.right-2.ensures (unit_again c.from-2.result a.unit c.from-2.ensures small) in
    let counts = c.immediate.ensures.is ∙ ap (λ r. Imm Addi r c.count-3.result (negsuc 0)) c.count-2.ensures
    ∙ ap (λ r. Imm Addi 30 r (negsuc 0)) c.count-3.ensures in
    let body = body_put a.unit c.number.new.self.text c.copy_unit.new.code.text c.put.new.self.text
    c.put-2.new.self.text c.put-3.new.self.text c.advance.result c.advance-2.result c.immediate.result unit
    c.in_ok-put.ensures.text
    c.in_ok-put-2.ensures.text c.in_ok-put-3.ensures.text left right counts in
    let top = c.in_ok-put-3.ensures.top ∙ c.in_ok-put-2.ensures.top ∙ c.in_ok-put.ensures.top
    ∙ c.in_ok-copy_unit.ensures.top ∙ c.open_loop.ensures.top in
    let links = c.in_ok-put-3.ensures.size.1 ∙ c.in_ok-put-2.ensures.size.1 ∙ c.in_ok-put.ensures.size.1
    ∙ c.in_ok-copy_unit.ensures.links ∙ ap (λ (x : Size). both_trapping x.links (length x.text) a.from a.to)
    c.open_loop.ensures.same in
    on_both c.close_loop.result _ _ _ c.close_loop.ensures.led c.close_loop.ensures.size
    (λ l size few. round_copied a.units a.unit a.from a.to a.code.now c.number.new.self c.close_loop.new.self
    c.put-3.new.self.text c.put-3.new.self.top c.count-4.result c.count-4.ensures
    (number_put 30 c.count.result a.units v _ a.code.now c.number.new.self c.count.ensures (omega arith) few
    (to_z-of_z w32 v fits) c.number_of.ensures c.in_ok-number.ensures.text) c.in_ok-number.ensures.size.2 top body l
    (size.1 ∙ links))
