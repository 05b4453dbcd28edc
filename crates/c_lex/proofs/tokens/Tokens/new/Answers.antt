use Rattle.std.proofs.Common.{refl, arith}
use Rattle.ck_base.specs.Lexes.{position_after, begins_line}
use Rattle.c_lex.specs.Pieces.{place_behind}
use Rattle.c_lex.proofs.tokens.Tokens.new.Goals as goal

pub invariant_of-result : goal.invariant_of-result
unfolding place_behind position_after begins_line
invariant_of-result c = record { small = c.requires; of_file = record { within = omega arith; is = refl } }
