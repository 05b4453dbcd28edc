use Rattle.std.proofs.Common.{Some, refl, sym, ap, ◌∙◌, subst}
use Rattle.cap_machine.specs.Containment.{Keeps}
use Rattle.cap_machine.specs.declared.end.End.TheVariants.{Exit, Illegal}
use Rattle.cap_machine.proofs.Endings.{call-numbered, call-other}
use Rattle.cap_machine.proofs.machine.Machine.call.Goals as goal

pub returns-then-number-eq1-clause-acted : goal.returns-then-number-eq1-clause-acted
returns-then-number-eq1-clause-acted g c =
    rw (call-numbered c.args.self.now 1 (sym c.integer-number.ensures ∙ c.if-number-eq1.true))
    (c.put_byte.ensures.acted _ _)

pub returns-then-number-eq2-clause-acted : goal.returns-then-number-eq2-clause-acted
returns-then-number-eq2-clause-acted g c =
    rw (call-numbered c.args.self.now 2 (sym c.integer-number.ensures ∙ c.if-number-eq2.true))
    (c.read_byte.ensures.acted _ _)

pub returns-then-number-eq3-clause-acted : goal.returns-then-number-eq3-clause-acted
returns-then-number-eq3-clause-acted g c =
    rw (call-numbered c.args.self.now 3 (sym c.integer-number.ensures ∙ c.if-number-eq3.true))
    (ap (λ n. Some (Exit n)) c.low_byte.ensures, refl, refl)

pub returns-else-number-eq3-clause-acted : goal.returns-else-number-eq3-clause-acted
returns-else-number-eq3-clause-acted g c =
    rw (call-other c.args.self.now c.integer-number.result
    (sym c.integer-number.ensures) c.if-number-eq1.false c.if-number-eq2.false c.if-number-eq3.false)
    (ap (λ n. Some (Illegal n)) c.counter.ensures, refl, refl)

pub returns-then-number-eq1-clause-contained : goal.returns-then-number-eq1-clause-contained
returns-then-number-eq1-clause-contained g c t has keeps =
    c.put_byte.ensures.contained t has (subst (λ a. Keeps t a)
    (call-numbered c.args.self.now 1 (sym c.integer-number.ensures ∙ c.if-number-eq1.true)) keeps)

pub returns-then-number-eq2-clause-contained : goal.returns-then-number-eq2-clause-contained
returns-then-number-eq2-clause-contained g c t has keeps =
    c.read_byte.ensures.contained t has (subst (λ a. Keeps t a)
    (call-numbered c.args.self.now 2 (sym c.integer-number.ensures ∙ c.if-number-eq2.true)) keeps)

pub returns-else-number-eq3-clause-contained : goal.returns-else-number-eq3-clause-contained
returns-else-number-eq3-clause-contained g c t has keeps =
    absurd (subst (λ a. Keeps t a) (call-other c.args.self.now c.integer-number.result
    (sym c.integer-number.ensures) c.if-number-eq1.false c.if-number-eq2.false c.if-number-eq3.false) keeps)
