use Rattle.c_copy.proofs.Renumbering.{kind_kept}
use Rattle.c_copy.proofs.numbers.Numbers.new_kind.Goals as goal

pub returns-in_default : goal.returns-in_default
returns-in_default c = λ n. kind_kept n c.args.kind.now c.in_default.not-Global c.in_default.not-Fun
