use Rattle.std.proofs.Common.{◌<◌, Some, None, sym, ap, ◌∙◌, subst, arith, rules}
use Rattle.cap_machine.specs.Containment.{IsContained}
use Rattle.cap_machine.specs.Step.{answered, read_value}
use Rattle.cap_machine.proofs.machine.Machine.read_byte.Goals as goal

pub returns-in-Ok-Some-clause-contained : goal.returns-in-Ok-Some-clause-contained
returns-in-Ok-Some-clause-contained g c t has keeps =
    let small : c.in-Ok-Some.byte < 256 = first_of (omega arith, search rules) in
    let kept : IsContained t (answered c.args.self.now (read_value (Some c.in-Ok-Some.byte))) =
    keeps (Some c.in-Ok-Some.byte) small in
    record {
      state = subst (λ m. IsContained t m)
          (sym (c.answer.ensures ∙ ap (λ n. answered c.args.self.now n) c.from.ensures)) kept;
      proper = tt;
    }

pub returns-in-Ok-None-clause-contained : goal.returns-in-Ok-None-clause-contained
returns-in-Ok-None-clause-contained g c t has keeps =
    record { state = subst (λ m. IsContained t m) (sym c.answer-in-Ok-None.ensures) (keeps None tt); proper = tt }
