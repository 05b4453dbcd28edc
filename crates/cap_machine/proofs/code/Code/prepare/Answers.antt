use Rattle.std.proofs.Common.{◌≡◌, ℕ, sym, subst, rules}
use Rattle.cap_ops.specs.declared.capability.Cap.{Cap}
use Rattle.cap_machine.specs.declared.code.Code.{Code}
use Rattle.cap_machine.specs.declared.machine.Machine.{Machine}
use Rattle.cap_machine.specs.Code.{KeepsIf, Current, IsAlike, Spares}
use Rattle.cap_machine.specs.State.{register, integer}
use Rattle.cap_machine.specs.Rows.{row, plus, entered}
use Rattle.cap_machine.proofs.KeptCode.{after_store, after_jump, after_other}
use Rattle.cap_machine.proofs.code.Code.prepare.Goals as goal

pub returns-in-Store : goal.returns-in-Store
returns-in-Store c has =
    let m : Machine = c.args.m.now in
    let old : Code = c.args.self.now in
    let new : Code = c.before_store.new.self in
    let at : c.plus.result ≡ plus (integer m c.in-Store.rs1) c.in-Store.z = search rules in
    subst (λ i. Current new (row m i).1) (sym c.in-Store.is)
    (after_store old new m c.in-Store.field-0 c.in-Store.field-1 c.in-Store.rs1 c.in-Store.z
    (subst (λ (x : ℕ). KeepsIf (Spares old x) old new) at c.before_store.ensures) has)

pub returns-in-Cjalr : goal.returns-in-Cjalr
returns-in-Cjalr c has =
    let m : Machine = c.args.m.now in
    let old : Code = c.args.self.now in
    let new : Code = c.before_jump.new.self in
    let to : c.entered.result ≡ entered (register m c.in-Cjalr.rs1) c.in-Cjalr.z = search rules in
    subst (λ i. Current new (row m i).1) (sym c.in-Cjalr.is)
    (after_jump old new m c.in-Cjalr.field-0 c.in-Cjalr.rs1 c.in-Cjalr.z
    (subst (λ (d : Cap). KeepsIf (IsAlike m.pc d) old new) to c.before_jump.ensures) has)

pub returns-in_default : goal.returns-in_default
returns-in_default c has =
    after_other c.args.self.now c.args.m.now c.args.i.now c.in_default.not-Store c.in_default.not-Cjalr has
