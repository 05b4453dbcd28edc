use Rattle.std.proofs.Common.{inl, inr, refl, ap, ◌∙◌, subst}
use Rattle.ck_base.specs.Calls.{seen, PutDone, PutFailed}
use Rattle.cap_machine.specs.Step.{answered}
use Rattle.cap_machine.proofs.machine.Machine.put_byte.Goals as goal

pub returns-in-Ok-clause-acted : goal.returns-in-Ok-clause-acted
returns-in-Ok-clause-acted g c left faults =
    inl (
      refl,
      c.answer.ensures ∙ ap (λ n. answered c.args.self.now n) (c.from.ensures ∙ c.low_byte-byte.ensures),
      subst (λ b. PutDone (seen left faults (g.O.Sink.held c.args.out.now) (g.O.Sink.faults c.args.out.now))
          (seen left faults (g.O.Sink.held c.put_byte.new.out) (g.O.Sink.faults c.put_byte.new.out)) b)
          c.low_byte-byte.ensures (c.in-Ok.ensures.done left faults),
    )

pub returns-in-Err-clause-acted : goal.returns-in-Err-clause-acted
returns-in-Err-clause-acted g c left faults =
    inr (
      refl,
      refl,
      subst (λ b. PutFailed (seen left faults (g.O.Sink.held c.args.out.now) (g.O.Sink.faults c.args.out.now))
          (seen left faults (g.O.Sink.held c.put_byte.new.out) (g.O.Sink.faults c.put_byte.new.out)) b)
          c.low_byte-byte.ensures (c.in-Err.ensures.failed left faults),
    )
