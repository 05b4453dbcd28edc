use Rattle.std.proofs.Common.{rules}
use Rattle.std.proofs.lemmas.List.Sorted.{answers_always}
use Rattle.rv_words.specs.declared.jumps.Mark.{Mark}
use Rattle.rv_words.proofs.Led.{marked_one, marked_none}
use Rattle.rv_words.proofs.jumps.place_of.Goals as goal

pub returns-in-Ok-clause-found : goal.returns-in-Ok-clause-found
returns-in-Ok-clause-found c = λ place h.
    let found = c.in-Ok.ensures.position (λ (m : Mark). m.label) (answers_always _ _ _
    (λ f a r g called. search rules)) in
    marked_one c.args.marks.now c.args.label c.in-Ok.k place _ c.in-Ok.ensures.bound (found _) h

pub returns-in-Err-clause-none : goal.returns-in-Err-clause-none
returns-in-Err-clause-none c = λ place h.
    let sides = c.in-Err.ensures.position (λ (m : Mark). m.label) (answers_always _ _ _
    (λ f a r g called. search rules)) in
    marked_none c.args.marks.now c.args.label _ place c.requires sides h
