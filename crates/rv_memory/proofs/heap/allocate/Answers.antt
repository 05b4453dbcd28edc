use Rattle.std.proofs.Common.{ap, ◌∙◌, pos, ◌++◌, [], ◌∷◌}
use Rattle.rv_instr.specs.declared.instr.Instr.{Instr}
use Rattle.rv_instr.specs.declared.instr.Instr.TheVariants.{CapGet, Branch}
use Rattle.rv_instr.specs.declared.ops.BranchOp.TheVariants.{Bltu}
use Rattle.rv_instr.specs.declared.ops.CapGetOp.TheVariants.{Cgetlen}
use Rattle.purecap_abi.specs.Words.{load_code}
use Rattle.rv_memory.proofs.Allocated.{allocated}
use Rattle.rv_memory.proofs.heap.allocate.Goals as goal

pub returns-clause-text : goal.returns-clause-text
returns-clause-text c = λ low.
    let h = c.args.heap in
    let loads = c.in_ok-load_far.ensures.text low
    ∙ ap (λ r. c.args.code.now.text ++ load_code r 3 h c.left-2.result) c.left.ensures
    ∙ ap (λ r. c.args.code.now.text ++ load_code 28 3 h r) c.left-2.ensures in
    let asks = c.of_one.ensures.is ∙ ap (λ r. CapGet Cgetlen r c.left-3.result) c.right.ensures
    ∙ ap (CapGet Cgetlen 29) c.left-3.ensures in
    allocated h c.args.code.now.text c.load_far.new.self.text c.put.new.self.text c.branch-code.new.self.text
    c.round.new.code.text c.find.new.code.text c.measure.new.code.text c.branch-code-2.new.self.text
    c.take.new.code.text c.skip.new.self.text c.land.new.self.text c.land-2.new.self.text c.put-2.new.self.text
    c.land-3.new.self.text
    c.in_ok-longer.longer c.in_ok-full.full c.in_ok-done.done
    loads
    (c.in_ok-put.ensures.text ∙ ap (λ (i : Instr). c.load_far.new.self.text ++ i ∷ []) asks)
    c.in_ok-longer.ensures.at
    (c.in_ok-longer.ensures.text ∙ ap (λ r. c.put.new.self.text ++ Branch Bltu r 10 (pos 0) ∷ []) c.right-2.ensures)
    c.in_ok-round.ensures.text c.in_ok-find.ensures.text c.in_ok-measure.ensures.text c.in_ok-full.ensures.at
    (c.in_ok-full.ensures.text ∙ ap (λ r. c.measure.new.code.text ++ Branch Bltu r 10 (pos 0) ∷ []) c.count.ensures)
    (c.in_ok-take.ensures.text low) c.in_ok-done.ensures.at c.in_ok-done.ensures.text
    c.land.ensures.led c.land-2.ensures.led
    (c.in_ok-put-2.ensures.text ∙ ap (λ (i : Instr). c.land-2.new.self.text ++ i ∷ []) c.immediate.ensures.is)
    c.land-3.ensures.led
