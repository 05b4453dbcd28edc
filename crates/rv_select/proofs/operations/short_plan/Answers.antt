use Rattle.std.proofs.Common.{refl, ap, sym}
use Rattle.std.specs.Prelude.{Some}
use Rattle.ck_int.specs.declared.kinds.IntOp.TheVariants as op
use Rattle.rv_instr.specs.declared.ops.ImmOp.TheVariants.{Andi, Ori, Xori}
use Rattle.rv_select.specs.Choosing.{chosen}
use Rattle.rv_select.proofs.Planned.{if_some, plan_with, shift_width}
use Rattle.rv_select.proofs.operations.short_plan.Goals as goal

pub returns-in-Add-clause-is : goal.returns-in-Add-clause-is
returns-in-Add-clause-is c =
    let a = c.args in
    if_some c.with_number.result _ _ c.with_number.ensures.is
    (λ w p at. plan_with (chosen a.f.now) a.op op.Add a.kind c.add_op.result a.a a.b w c.in-Add.is
    (ap Some (sym c.add_op.ensures)) p)

pub returns-in-Shl-clause-is : goal.returns-in-Shl-clause-is
returns-in-Shl-clause-is c =
    if_some c.shift.result _ _ c.shift.ensures.is
    (λ w p at. p (shift_width c.args.kind c.args.op c.in-Shl.is at))

pub returns-in-And-clause-is : goal.returns-in-And-clause-is
returns-in-And-clause-is c =
    let a = c.args in
    if_some c.with_number-in-And.result _ _ c.with_number-in-And.ensures.is
    (λ w p at. plan_with (chosen a.f.now) a.op op.And a.kind Andi a.a a.b w c.in-And.is refl p)

pub returns-in-Or-clause-is : goal.returns-in-Or-clause-is
returns-in-Or-clause-is c =
    let a = c.args in
    if_some c.with_number-in-Or.result _ _ c.with_number-in-Or.ensures.is
    (λ w p at. plan_with (chosen a.f.now) a.op op.Or a.kind Ori a.a a.b w c.in-Or.is refl p)

pub returns-in-Xor-clause-is : goal.returns-in-Xor-clause-is
returns-in-Xor-clause-is c =
    let a = c.args in
    if_some c.with_number-in-Xor.result _ _ c.with_number-in-Xor.ensures.is
    (λ w p at. plan_with (chosen a.f.now) a.op op.Xor a.kind Xori a.a a.b w c.in-Xor.is refl p)
