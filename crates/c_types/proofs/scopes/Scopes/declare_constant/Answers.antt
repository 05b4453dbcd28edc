use Rattle.std.proofs.Common.{w32, ◌∙◌, ap}
use Rattle.std.proofs.lemmas.Int.{to_z-of_z}
use Rattle.c_types.specs.declared.entries.Entity.TheVariants.{Enumerator}
use Rattle.c_types.proofs.scopes.Scopes.declare_constant.Goals as goal

pub returns-clause-is : goal.returns-clause-is
returns-clause-is c p = c.declare_value.ensures.is p c.args.value
    (c.constant.ensures ∙ ap Enumerator (to_z-of_z w32 c.args.value c.ranges.value))
