use Rattle.std.proofs.Common.{arith}
use Rattle.c_lex.proofs.Positions.{place_bounds}
use Rattle.c_lex.proofs.Going.{token_place}
use Rattle.c_lex.proofs.places.behind_token.Goals as goal

pub returns : goal.returns
returns c = λ front text is long goes. rw long at (token_place c.args.place front text goes is)

pub overflow_add-result : goal.overflow_add-result
overflow_add-result c =
    let small = place_bounds c.args.place c.requires.0 c.requires.1 in omega (arith, small.0, c.requires.2)

pub overflow_add-result-2 : goal.overflow_add-result-2
overflow_add-result-2 c =
    let small = place_bounds c.args.place c.requires.0 c.requires.1 in omega (arith, small.2, c.requires.2)
