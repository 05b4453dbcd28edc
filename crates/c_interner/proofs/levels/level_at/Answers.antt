use Rattle.std.proofs.Common.{sym}
use Rattle.std.proofs.lemmas.Bool.{ltb-false}
use Rattle.c_interner.proofs.Growing.{there, type_at-past}
use Rattle.c_interner.proofs.Pairing.{level_is, ranks_of}
use Rattle.c_interner.proofs.levels.level_at.Goals as goal

pub returns-in_ok-parts-in-Some-clause-is : goal.returns-in_ok-parts-in-Some-clause-is
returns-in_ok-parts-in-Some-clause-is c =
    let at = there c.args.types.now c.args.k c.in-Some.c.now c.in-Some.ensures.lookup.0 c.in-Some.ensures.lookup.1 in
    level_is c.args.types.now c.args.void c.args.k c.in-Some.c.now c.head_of.result c.with_part.result
    c.params_of.result.now c.in_ok-parts-in-Some.field-0.items at c.requires
    (λ go. rw c.params_of.ensures (c.head_of.ensures go)) c.with_part.ensures.is c.in_ok-parts-in-Some.ensures

pub returns-in_ok-parts-in-Some-clause-params : goal.returns-in_ok-parts-in-Some-clause-params
returns-in_ok-parts-in-Some-clause-params c =
    rw c.in_ok-parts-in-Some.ensures (ranks_of c.args.void c.args.k c.params_of.result.now)

pub returns-in-None-clause-is : goal.returns-in-None-clause-is
returns-in-None-clause-is c = type_at-past c.args.types.now c.args.k (ltb-false _ _ (sym c.in-None.ensures.lookup.0))
