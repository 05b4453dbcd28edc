use Rattle.c_lex.proofs.Positions.{place-line_feed, place-other}
use Rattle.c_lex.proofs.places.behind_byte.Goals as goal

pub returns-then-b-eq10 : goal.returns-then-b-eq10
returns-then-b-eq10 c = λ front is. rw c.if-b-eq10.true (place-line_feed c.args.place front is)

pub returns-then-place : goal.returns-then-place
returns-then-place c = λ front is. rw c.is_space.ensures
    (rw c.if-place.true at (place-other c.args.place front c.args.b c.if-b-eq10.false is))

pub returns-else-place : goal.returns-else-place
returns-else-place c = λ front is. rw c.if-place.false
    (rw c.if-place.false at (place-other c.args.place front c.args.b c.if-b-eq10.false is))
