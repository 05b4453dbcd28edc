use Rattle.std.proofs.Common.{◌∙◌}
use Rattle.c_operators.proofs.Numbers.{type_is-int, type_is-unsigned, type_is-long, type_is-unsigned_long}
use Rattle.c_operators.proofs.Numbers.{type_is-long_long, type_is-unsigned_long_long, type_is-none}
use Rattle.c_operators.proofs.constants.number_type.Goals as goal

pub returns-then-can_have : goal.returns-then-can_have
returns-then-can_have c = type_is-int c.args.n (c.can_have.ensures ∙ c.if-can_have.true)

pub returns-then-can_have-2 : goal.returns-then-can_have-2
returns-then-can_have-2 c =
    type_is-unsigned c.args.n (c.can_have.ensures ∙ c.if-can_have.false)
    (c.can_have-else-can_have.ensures ∙ c.if-can_have-2.true)

pub returns-then-can_have-3 : goal.returns-then-can_have-3
returns-then-can_have-3 c =
    type_is-long c.args.n (c.can_have.ensures ∙ c.if-can_have.false)
    (c.can_have-else-can_have.ensures ∙ c.if-can_have-2.false)
    (c.can_have-else-can_have-2.ensures ∙ c.if-can_have-3.true)

pub returns-then-can_have-4 : goal.returns-then-can_have-4
returns-then-can_have-4 c =
    type_is-unsigned_long c.args.n (c.can_have.ensures ∙ c.if-can_have.false)
    (c.can_have-else-can_have.ensures ∙ c.if-can_have-2.false)
    (c.can_have-else-can_have-2.ensures ∙ c.if-can_have-3.false)
    (c.can_have-else-can_have-3.ensures ∙ c.if-can_have-4.true)

pub returns-then-can_have-5 : goal.returns-then-can_have-5
returns-then-can_have-5 c =
    type_is-long_long c.args.n (c.can_have.ensures ∙ c.if-can_have.false)
    (c.can_have-else-can_have.ensures ∙ c.if-can_have-2.false)
    (c.can_have-else-can_have-2.ensures ∙ c.if-can_have-3.false)
    (c.can_have-else-can_have-3.ensures ∙ c.if-can_have-4.false)
    (c.can_have-else-can_have-4.ensures ∙ c.if-can_have-5.true)

pub returns-then-can_have-6 : goal.returns-then-can_have-6
returns-then-can_have-6 c =
    type_is-unsigned_long_long c.args.n (c.can_have.ensures ∙ c.if-can_have.false)
    (c.can_have-else-can_have.ensures ∙ c.if-can_have-2.false)
    (c.can_have-else-can_have-2.ensures ∙ c.if-can_have-3.false)
    (c.can_have-else-can_have-3.ensures ∙ c.if-can_have-4.false)
    (c.can_have-else-can_have-4.ensures ∙ c.if-can_have-5.false)
    (c.can_have-else-can_have-5.ensures ∙ c.if-can_have-6.true)

pub returns-else-can_have-6 : goal.returns-else-can_have-6
returns-else-can_have-6 c =
    type_is-none c.args.n (c.can_have.ensures ∙ c.if-can_have.false)
    (c.can_have-else-can_have.ensures ∙ c.if-can_have-2.false)
    (c.can_have-else-can_have-2.ensures ∙ c.if-can_have-3.false)
    (c.can_have-else-can_have-3.ensures ∙ c.if-can_have-4.false)
    (c.can_have-else-can_have-4.ensures ∙ c.if-can_have-5.false)
    (c.can_have-else-can_have-5.ensures ∙ c.if-can_have-6.false)
