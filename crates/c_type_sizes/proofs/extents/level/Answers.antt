use Rattle.std.proofs.Common.{sym, ◌∙◌}
use Rattle.c_tree.specs.Scopes.{type_extent}
use Rattle.c_type_sizes.proofs.Levels.{once}
use Rattle.c_type_sizes.proofs.extents.level.Goals as goal

pub returns-in-Const-clause-is : goal.returns-in-Const-clause-is
returns-in-Const-clause-is c tags types seen ps h =
    rw c.in-Const.is (sym (once (type_extent tags (seen c.in-Const.inner)))
    ∙ c.part-in-Const.ensures.is tags types seen h)
