use Rattle.std.proofs.Common.{inl, inr, refl, sym, subst}
use Rattle.ck_base.specs.Calls.{seen}
use Rattle.command_modes.specs.Modes.{NotBuilt}
use Rattle.command_modes.specs.declared.answer.Answer.{Answer}
use Rattle.command_modes.proofs.Said.{not_built_says}
use Rattle.command_modes.proofs.meaning.mean_file.Goals as goal

pub returns-in-Err : goal.returns-in-Err
returns-in-Err g c =
    let file = c.args.file.now in
    let now = seen (g.I.Source.left c.args.input.now) (g.I.Source.faults c.args.input.now)
    (g.O.Sink.held c.args.out.now) (g.O.Sink.faults c.args.out.now) in
    inl (inl (subst (λ (answer : Answer). NotBuilt now now file answer) (sym c.not_built.ensures)
    (not_built_says now file c.in-Err.refusal c.in-Err.ensures.refused)))

pub returns-in-Ok-mean : goal.returns-in-Ok-mean
returns-in-Ok-mean g c =
    inr (record {
      program = c.in-Ok.program;
      accepted = c.in-Ok.ensures.accepted;
      ending = c.in-Ok-mean.ending;
      ran = c.in-Ok-mean.ensures.run;
      counted = c.in-Ok-mean.ensures.counted;
      answered = c.meant.ensures;
    })

pub returns : goal.returns
returns g c =
    inl (inr (
      refl,
      record {
        program = c.in-Ok.program;
        accepted = c.in-Ok.ensures.accepted;
        short = c.in-Err-mean.ensures.short;
      },
    ))
