use Rattle.std.proofs.Common.{arith}
use Rattle.tac_lower.proofs.Assigning.{own_new, own_kept}
use Rattle.tac_lower.proofs.Spending.{own_none, own_given, own_other}
use Rattle.tac_lower.proofs.Steps.{start, tail_grew}
use Rattle.tac_lower.proofs.expressions.own.Goals as goal

pub returns-in_default-clause-lowered : goal.returns-in_default-clause-lowered
returns-in_default-clause-lowered c =
    tail_grew _ _ c.temp.result (start c.requires.scene) c.temp.ensures.grown c.temp.ensures.adds (omega arith)

pub returns-in_default-clause-owns : goal.returns-in_default-clause-owns
returns-in_default-clause-owns c =
    own_none c.args.cx.fixed _ _ c.temp.result c.in_default.is c.temp.ensures.next c.temp.ensures.spent

pub returns-then-is_own-clause-owns : goal.returns-then-is_own-clause-owns
returns-then-is_own-clause-owns c = own_given c.in-Some.is (c.is_own.ensures.own c.if-is_own.true)

pub returns-clause-lowered : goal.returns-clause-lowered
returns-clause-lowered c =
    tail_grew _ _ c.temp-2.result (start c.requires.scene) c.temp-2.ensures.grown c.temp-2.ensures.adds (omega arith)

pub returns-clause-owns : goal.returns-clause-owns
returns-clause-owns c = own_other c.args.cx.fixed _ _ c.temp-2.result c.in-Some.t c.in-Some.is
    (c.is_own.ensures.other c.if-is_own.false) c.temp-2.ensures.next c.temp-2.ensures.spent

pub returns-in_default-clause-is : goal.returns-in_default-clause-is
returns-in_default-clause-is c = own_new _ _ _ _ c.temp.result c.temp.ensures.next c.temp.ensures.emits

pub returns-then-is_own-clause-is : goal.returns-then-is_own-clause-is
returns-then-is_own-clause-is c = own_kept _ _ c.in-Some.is (c.is_own.ensures.own c.if-is_own.true)

pub returns-clause-is : goal.returns-clause-is
returns-clause-is c = own_new _ _ _ _ c.temp-2.result c.temp-2.ensures.next c.temp-2.ensures.emits
