use Rattle.std.proofs.Common.{Ok, refl, sym, ap, ◌∙◌, subst}
use Rattle.cap_machine.specs.Rows.{row}
use Rattle.cap_machine.specs.Containment.{Keeps}
use Rattle.cap_machine.proofs.Containment.{act_kept, row_leaves}
use Rattle.ck_base.specs.Calls.{seen}
use Rattle.cap_machine.proofs.Endings.{row_well, acted, act-fetched, act_on-call, act_on-row}
use Rattle.cap_machine.specs.Code.{Current}
use Rattle.cap_machine.proofs.KeptCode.{same_current, called_same}
use Rattle.cap_machine.proofs.machine.Machine.next_step.Goals as goal

pub returns-in-Err-clause-acted : goal.returns-in-Err-clause-acted
returns-in-Err-clause-acted g c = rw (act-fetched c.args.self.now _ (sym c.in-Err.ensures.value)) (refl, refl, refl)

pub returns-then-is_call-clause-acted : goal.returns-then-is_call-clause-acted
returns-then-is_call-clause-acted g c =
    rw (act-fetched c.args.self.now (Ok c.in-Ok.i) (sym c.in-Ok.ensures.value)
    ∙ act_on-call c.args.self.now c.in-Ok.i c.if-is_call.ensures) c.call.ensures.acted

pub returns-else-is_call-clause-acted : goal.returns-else-is_call-clause-acted
returns-else-is_call-clause-acted g c =
    let now = seen (g.I.Source.left c.args.input.now) (g.I.Source.faults c.args.input.now)
    (g.O.Sink.held c.args.out.now) (g.O.Sink.faults c.args.out.now) in
    rw (act-fetched c.args.self.now (Ok c.in-Ok.i) (sym c.in-Ok.ensures.value))
    (acted c.args.self.now now c.row.result c.row.new.self c.in-Ok.i
    (act_on-row c.args.self.now c.in-Ok.i c.if-is_call.ensures) c.row.ensures)

pub returns-in-Err-clause-contained : goal.returns-in-Err-clause-contained
returns-in-Err-clause-contained g c t text has =
    record {
      state = has;
      proper = subst (λ a. Keeps t a) (act-fetched c.args.self.now _ (sym c.in-Err.ensures.value))
          (act_kept t has.lies text c.args.self.now has);
    }

pub returns-then-is_call-clause-contained : goal.returns-then-is_call-clause-contained
returns-then-is_call-clause-contained g c t text has =
    c.call.ensures.contained t has (subst (λ a. Keeps t a)
    (act-fetched c.args.self.now (Ok c.in-Ok.i) (sym c.in-Ok.ensures.value)
    ∙ act_on-call c.args.self.now c.in-Ok.i c.if-is_call.ensures)
    (act_kept t has.lies text c.args.self.now has))

pub returns-else-is_call-clause-contained : goal.returns-else-is_call-clause-contained
returns-else-is_call-clause-contained g c t text has =
    row_leaves t c.args.self.now c.row.result c.row.new.self (row c.args.self.now c.in-Ok.i) has
    (row_well c.args.self.now c.in-Ok.i)
    (subst (λ a. Keeps t a) (act-fetched c.args.self.now (Ok c.in-Ok.i) (sym c.in-Ok.ensures.value)
    ∙ act_on-row c.args.self.now c.in-Ok.i c.if-is_call.ensures) (act_kept t has.lies text c.args.self.now has))
    c.row.ensures

pub returns-then-is_call-clause-current : goal.returns-then-is_call-clause-current
returns-then-is_call-clause-current g c =
    same_current c.fetch.new.code c.args.self.now c.call.new.self
    (called_same c.args.self.now _ _ c.call.new.self _ c.call.ensures.acted) c.in-Ok.ensures.current

pub returns-else-is_call-clause-current : goal.returns-else-is_call-clause-current
returns-else-is_call-clause-current g c =
    subst (Current c.prepare.new.self) (sym (ap (λ p. p.1) c.row.ensures)) (c.prepare.ensures c.in-Ok.ensures.current)
