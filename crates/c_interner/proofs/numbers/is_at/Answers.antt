use Rattle.c_interner.proofs.Growing.{level_is_at, there}
use Rattle.c_interner.proofs.numbers.is_at.Goals as goal

pub returns-then-is_level : goal.returns-then-is_level
returns-then-is_level c e =
    let at = there c.args.types.now c.args.k c.in-Some.there.now c.in-Some.ensures.lookup.0 c.in-Some.ensures.lookup.1
    in
    level_is_at c.args.types.now c.args.k c.in-Some.there.now c.args.c.now c.head_of-head.result
    c.params_of-params.result.now at
    (c.is_level.ensures c.if-is_level.true) (λ go. rw c.params_of-params.ensures (c.head_of-head.ensures go))
    (c.stands_before.ensures.part e) (c.stands_before.ensures.params e)
