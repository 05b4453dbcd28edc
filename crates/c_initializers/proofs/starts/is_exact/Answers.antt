use Rattle.std.proofs.Common.{◌∙◌}
use Rattle.c_initializers.proofs.ExactLaws.{exact-rest}
use Rattle.c_initializers.proofs.starts.is_exact.Goals as goal

pub returns : goal.returns
returns c = c.is_exact_low.ensures ∙ exact-rest c.args.at c.args.n
