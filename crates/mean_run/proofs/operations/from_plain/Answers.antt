use Rattle.std.proofs.Common.{[], sym, ◌∙◌, arith}
use Rattle.mean_run.proofs.Computed.{not_converted, no_capability, of_other, of_plain, operand_before, through}
use Rattle.mean_run.proofs.operations.from_plain.Goals as goal

pub returns-in-None : goal.returns-in-None
returns-in-None c = λ fit vars.
    not_converted c.args.s.now.p.now vars fit.order c.operands.at c.in-None.ensures
    ∙ sym ((c.operands.invariant fit).1 vars)

pub returns-then-not-is_capability_integer : goal.returns-then-not-is_capability_integer
returns-then-not-is_capability_integer c = λ fit vars.
    no_capability c.args.s.now.p.now vars fit c.operands.at c.in-Some.operand c.in-Some.ensures
    (c.if-not-is_capability_integer.ensures vars) ∙ sym ((c.operands.invariant fit).1 vars)

pub returns-then-is_plain : goal.returns-then-is_plain
returns-then-is_plain c = λ fit vars.
    of_plain c.args.s.now.p.now vars fit c.operands.at c.in-Some.operand c.in-Some.ensures
    (c.if-not-is_capability_integer.ensures vars) (c.if-is_plain.ensures vars)
    ∙ sym ((c.operands.invariant fit).1 vars)

pub returns-then-not-is_capability_integer-2 : goal.returns-then-not-is_capability_integer-2
returns-then-not-is_capability_integer-2 c = λ fit vars.
    of_other c.args.s.now.p.now vars fit c.operands.at c.in-Some.operand c.in-Some.ensures
    (c.if-not-is_capability_integer.ensures vars) (c.if-is_plain.ensures vars)
    (c.if-not-is_capability_integer-2.ensures vars) ∙ sym ((c.operands.invariant fit).1 vars)

pub operands-preserved : goal.operands-preserved
operands-preserved c = λ fit.
    let p = c.args.s.now.p.now in
    let i = c.operands.invariant fit in
    let smaller = operand_before p [] fit c.operands.at c.in-Some.operand c.in-Some.ensures in (
      omega (arith, i.0, smaller),
      λ vars. i.1 vars
          ∙ through p vars fit c.operands.at c.in-Some.operand c.in-Some.ensures
          (c.if-not-is_capability_integer.ensures vars) (c.if-is_plain.ensures vars)
          (c.if-not-is_capability_integer-2.ensures vars),
    )
