use Rattle.std.proofs.Common.{◌≡◌, Ok, sym, ap, ◌∙◌, Err}
use Rattle.image_load.specs.Judging.{judged}
use Rattle.command_modes.proofs.Loads.{loaded_of, is_loaded, not_read, not_judged}
use Rattle.command_modes.proofs.auditing.audit_file.Goals as goal

pub returns-in-Err : goal.returns-in-Err
returns-in-Err c = not_read c.args.file.now c.in-Err.refusal (sym c.read.ensures.exact ∙ c.in-Err.is)
    ∙ ap Err (sym c.number.ensures)

pub returns-in-Err-judge : goal.returns-in-Err-judge
returns-in-Err-judge c =
    not_judged c.args.file.now c.in-Ok.view c.in-Err-judge.refusal (sym c.read.ensures.exact ∙ c.in-Ok.is)
    (sym c.judge.ensures ∙ c.in-Err-judge.is)
    ∙ ap Err (sym c.number-in-Err-judge.ensures)

pub returns-in-Ok-audit : goal.returns-in-Ok-audit
returns-in-Ok-audit c =
    let read = sym c.read.ensures.exact ∙ c.in-Ok.is in
    let fine : judged c.in-Ok.view ≡ Ok tt = sym c.judge.ensures ∙ c.in_default.is in (
      loaded_of c.in-Ok.view,
      is_loaded c.args.file.now c.in-Ok.view read fine,
      record { answers = c.in-Ok-audit.ensures.answer; yes = c.in-Ok-audit.ensures.contained },
    )

pub returns-in-Err-audit : goal.returns-in-Err-audit
returns-in-Err-audit c =
    let read = sym c.read.ensures.exact ∙ c.in-Ok.is in
    let fine : judged c.in-Ok.view ≡ Ok tt = sym c.judge.ensures ∙ c.in_default.is in
    (loaded_of c.in-Ok.view, is_loaded c.args.file.now c.in-Ok.view read fine)
