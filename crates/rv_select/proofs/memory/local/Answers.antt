use mir.Val.{SFits}
use Rattle.std.proofs.Common.{ap, ◌∙◌, ◌++◌, [], ◌∷◌, w32, rules, arith}
use Rattle.std.proofs.lemmas.Int.{to_z-of_z}
use Rattle.rv_instr.specs.declared.instr.Instr.{Instr}
use Rattle.rv_instr.specs.declared.instr.Instr.TheVariants.{CapReg}
use Rattle.rv_instr.specs.declared.ops.CapRegOp.TheVariants.{Csetboundsexact}
use Rattle.purecap_abi.proofs.Ranges.{on_ok}
use Rattle.rv_idioms.proofs.Zeroes.{number_put}
use Rattle.rv_select.proofs.Zeroed.{local_of}
use Rattle.rv_select.proofs.memory.local.Goals as goal

pub returns-clause-words : goal.returns-clause-words
returns-clause-words c =
    let a = c.args in
    let r = c.target-r.result in
    let found = c.object-object.result in
    let v = c.number_of.result in
    let fits : SFits w32 v = search rules in
    let bounds = c.of_two.ensures.is ∙ ap (CapReg Csetboundsexact r r) c.right-2.ensures in
    on_ok c.keep.result _ _ c.keep.ensures.words
    (λ k t h. local_of a.f.now a.to a.var a.code.now c.moved.new.self c.number.new.self c.put.new.self c.keep.new.code r
    found c.object-object.ensures (c.target-r.ensures t) c.in_ok-moved.ensures.text
    (λ lt. number_put 29 c.right.result found.length v _ c.moved.new.self c.number.new.self c.right.ensures
    (omega arith) lt (to_z-of_z w32 v fits) c.number_of.ensures c.in_ok-number.ensures.text)
    (c.in_ok-put.ensures.text ∙ ap (λ (i : Instr). c.number.new.self.text ++ i ∷ []) bounds) (k t) h)
