use Rattle.std.proofs.Common.{sym, ◌∙◌}
use Rattle.std.proofs.lemmas.Bool.{true≢false}
use Rattle.rv_idioms.proofs.Moved.{free_unread}
use Rattle.rv_idioms.proofs.moves.next.Goals as goal

pub loop-k-preserved : goal.loop-k-preserved
loop-k-preserved c = record {
  free = λ free.
      let m = c.index-moves-k.result in
      let lt = c.loop-k-test.true in
      let unread = free_unread c.args.moves.now m free (c.loop-k.k, lt, sym c.index-moves-k.is) in
      absurd (true≢false (c.if-not-is_read.ensures ∙ unread));
}
