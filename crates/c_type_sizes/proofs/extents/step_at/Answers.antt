use Rattle.std.proofs.Common.{ap, sym}
use Rattle.std.proofs.lemmas.Bool.{ltb-false}
use Rattle.c_tree.specs.Scopes.{type_extent}
use Rattle.cap_layout.proofs.Places.{there}
use Rattle.c_interner.proofs.Growing.{type_at-past}
use Rattle.c_type_sizes.proofs.Levels.{level_extent}
use Rattle.c_type_sizes.proofs.extents.step_at.Goals as goal

pub returns-in-None-clause-is : goal.returns-in-None-clause-is
returns-in-None-clause-is c tags =
    ap (type_extent tags) (type_at-past c.args.types.now c.args.t (ltb-false _ _ (sym c.in-None.ensures.lookup.0)))

pub returns-in-Some-clause-is : goal.returns-in-Some-clause-is
returns-in-Some-clause-is c tags =
    level_extent tags c.args.types.now c.args.t c.in-Some.c.now c.head_of.result c.level.result
    (there c.args.types.now c.args.t c.in-Some.c.now c.in-Some.ensures.lookup.0 c.in-Some.ensures.lookup.1)
    c.head_of.ensures
    (λ seen ps h. c.level.ensures.is tags c.args.types.now seen ps h)
