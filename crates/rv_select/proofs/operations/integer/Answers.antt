use Rattle.std.proofs.Common.{Bool, ◌++◌, ap, ◌∙◌}
use Rattle.purecap_abi.proofs.Ranges.{on_ok}
use Rattle.select_words.specs.Operations.{finish_code, IntegerWords}
use Rattle.rv_select.specs.Choosing.{chosen}
use Rattle.rv_select.specs.Planning.{by_number, WorkWords}
use Rattle.rv_emit.proofs.Appended.{puts_map}
use Rattle.rv_select.proofs.Planned.{worked, planned, chosen_work}
use Rattle.rv_select.proofs.operations.integer.Goals as goal

pub returns-clause-words : goal.returns-clause-words
returns-clause-words c =
    let a = c.args in
    let s = chosen a.f.now in
    let w = c.plan-work.result in
    let r = c.target-r.result in
    let ends = finish_code a.kind a.op (by_number w) in
    on_ok c.keep.result _ _ c.keep.ensures.words
    (λ k h g n at.
    let is = c.plan-work.ensures.is at in
    let done = c.in_ok-finish.ensures.text at
    ∙ ap (λ (b : Bool). c.compute.new.code.text ++ finish_code a.kind a.op b r) c.by_number.ensures in
    puts_map (WorkWords s ends a.to w) (IntegerWords s a.op a.kind a.to a.a a.b) a.code.now c.keep.new.code
    (λ ws p. planned s a.kind a.to a.a a.b ws a.op w p is)
    (worked s a.to r ends (c.target-r.ensures h) w a.code.now c.compute.new.code c.finish.new.code c.keep.new.code
    (c.in_ok-compute.ensures.words (chosen_work a.f.now s a.op a.kind a.a a.b w g n is)) done (k h)))
