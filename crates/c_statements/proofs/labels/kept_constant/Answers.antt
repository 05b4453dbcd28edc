use Rattle.std.proofs.Common.{rules, arith, ◌∙◌, ap}
use Rattle.std.specs.Int.{w128}
use Rattle.std.proofs.lemmas.Int.{to_z-of_z, ints}
use Rattle.ck_int.specs.Kinds.{wrapped}
use Rattle.c_statements.proofs.labels.kept_constant.Goals as goal

pub returns : goal.returns
returns c = c.wrap.ensures.value
    ∙ ap (wrapped c.args.kind) (to_z-of_z w128 c.args.value.number
    (first_of (search rules, omega (arith, ints), omega arith)))
