use Rattle.std.proofs.Common.{Some, sym, ap, ◌∙◌}
use Rattle.c_elaborator.proofs.Owning.{owned_of, owned_fits, owned_over}
use Rattle.c_elaborator.proofs.work.Work.type_length.Goals as goal

pub returns-in-Err-Incomplete : goal.returns-in-Err-Incomplete
returns-in-Err-Incomplete c = λ s h.
    let f = c.in-Err-Incomplete.ensures.is s h.stands in
    ap owned_of (rw c.in-Err-Incomplete.field-0-is at f)

pub returns-in-Err-TooLarge : goal.returns-in-Err-TooLarge
returns-in-Err-TooLarge c = λ s h.
    let f = c.in-Err-TooLarge.ensures.is s h.stands in
    owned_over _ (rw c.in-Err-TooLarge.field-0-is at f) ∙ ap (λ n. Some n) (sym c.owned.ensures.length)

pub returns-in-Ok : goal.returns-in-Ok
returns-in-Ok c = λ s h.
    owned_fits _ c.in-Ok.layout (c.in-Ok.ensures.is s h.stands)
    ∙ ap (λ n. Some n) (sym c.owned-in-Ok.ensures.length)
