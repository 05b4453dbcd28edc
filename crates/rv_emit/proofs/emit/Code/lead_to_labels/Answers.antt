use Rattle.std.proofs.Common.{rules}
use Rattle.std.proofs.lemmas.List.Sorted.{All-permutation, answers_always}
use Rattle.rv_words.specs.declared.jumps.Mark.{Mark}
use Rattle.rv_words.proofs.Led.{led_sorted}
use Rattle.rv_emit.specs.Leading.{IsSoFar}
use Rattle.rv_emit.proofs.emit.Code.lead_to_labels.Goals as goal

pub lead_to_marks-requires-clause-marks : goal.lead_to_marks-requires-clause-marks
lead_to_marks-requires-clause-marks c =
    rw c.as_slice-2.ensures.value
    (All-permutation
    (λ n. IsSoFar c.self.inside.words.items n.at) _ _ c.sort_by_key.ensures.permutation c.self.invariant.0.targets.labels)

pub lead_to_marks-requires-clause-ordered : goal.lead_to_marks-requires-clause-ordered
lead_to_marks-requires-clause-ordered c =
    rw c.as_slice-2.ensures.value (c.in_ok-sort_by_key.ensures.sorted (λ (m : Mark). m.label)
    (answers_always _ _ _ (λ f a r g called. search rules)))

pub returns-clause-led : goal.returns-clause-led
returns-clause-led c =
    rw (← c.self.view_is) (led_sorted c.self.inside.marks.items _ _ c.self.inside.jumps.items _ _ _
    c.sort_by_key.ensures.permutation c.as_slice-2.ensures.value c.as_slice.ensures.value c.lead_to_marks.ensures.there)
