use Rattle.mean_work.proofs.Turning.{turned_behind}
use Rattle.mean_work.proofs.turns.turn_behind.Goals as goal

pub returns-else-first : goal.returns-else-first
returns-else-first c = λ n h.
    turned_behind c.args.first n c.turn.new.left c.turn.result c.if-first.false (c.turn.ensures n h)
