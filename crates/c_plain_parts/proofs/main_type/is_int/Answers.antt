use Rattle.std.proofs.Common.{◌∙◌}
use Rattle.c_tree.specs.Types.{int}
use Rattle.c_plain_parts.proofs.MainFunction.{same_past, same_level}
use Rattle.c_plain_parts.proofs.main_type.is_int.Goals as goal

pub returns-in-None : goal.returns-in-None
returns-in-None c = same_past c.args.types.now c.args.k int c.in-None.ensures

pub returns-in-Some : goal.returns-in-Some
returns-in-Some c = same_level c.args.types.now c.args.k c.in-Some.c.now int c.in-Some.ensures
    ∙ c.is_int_level.ensures _
