use Rattle.std.proofs.Common.{sym, ap, ◌∙◌}
use Rattle.cheri_c_sem.specs.Programs.{value_by, value_at}
use Rattle.tac_run.proofs.start.value_of_link.Goals as goal

pub returns-in-Global : goal.returns-in-Global
returns-in-Global c =
    let p = c.args.program.p.now in
    let l = c.args.l.now in
    c.pointer.ensures p ∙ (ap (λ o. value_by p o c.permissions.result l) c.from.ensures
    ∙ (ap (λ q. value_by p c.in-Global.g q l) c.permissions.ensures ∙ ap (value_at p l) (sym c.in-Global.is)))

pub returns-in-Literal : goal.returns-in-Literal
returns-in-Literal c =
    let p = c.args.program.p.now in
    let l = c.args.l.now in
    c.pointer-in-Literal.ensures p ∙ (ap (λ o. value_by p o 21 l) c.literal.ensures
    ∙ ap (value_at p l) (sym c.in-Literal.is))
