use Rattle.std.proofs.Common.{◌∙◌, inl, inr, refl, sym, ap, subst, Err}
use Rattle.ck_base.specs.Calls.{seen}
use Rattle.command_modes.specs.Modes.{ExecStopped}
use Rattle.command_modes.specs.declared.answer.Answer.{Answer}
use Rattle.command_modes.proofs.Loads.{loaded_of, is_loaded, not_read}
use Rattle.command_modes.proofs.Said.{not_loaded}
use Rattle.command_modes.proofs.running.exec_file.Goals as goal

pub returns-in-Err : goal.returns-in-Err
returns-in-Err g c = inl (
  refl,
  not_read c.args.file.now c.in-Err.refusal (sym c.read.ensures.exact ∙ c.in-Err.is)
      ∙ ap Err (sym c.number.ensures),
)

pub returns-in-Ok-run_image : goal.returns-in-Ok-run_image
returns-in-Ok-run_image g c =
    let h = c.in-Ok-run_image.ensures in
    inr (
      loaded_of c.in-Ok.view,
      is_loaded c.args.file.now c.in-Ok.view (sym c.read.ensures.exact ∙ c.in-Ok.is) h.0,
      h.1,
    )

pub returns-in-Err-run_image : goal.returns-in-Err-run_image
returns-in-Err-run_image g c =
    let before = seen (g.I.Source.left c.args.input.now) (g.I.Source.faults c.args.input.now)
    (g.O.Sink.held c.args.out.now) (g.O.Sink.faults c.args.out.now) in
    let after = seen (g.I.Source.left c.run_image.new.input) (g.I.Source.faults c.run_image.new.input)
    (g.O.Sink.held c.run_image.new.out) (g.O.Sink.faults c.run_image.new.out) in
    let h = c.in-Err-run_image.ensures in
    inl (subst (λ (answer : Answer). ExecStopped before after c.args.file.now answer) (sym c.refused_as.ensures)
    (not_loaded before after c.args.file.now c.in-Ok.view c.in-Err-run_image.refusal h.0
    (sym c.read.ensures.exact ∙ c.in-Ok.is) h.1))
