use Rattle.std.proofs.Common.{◌≡◌, true, sym, arith}
use Rattle.c_initializers.proofs.CoverLaws.{found-here, found-none}
use Rattle.c_initializers.proofs.covering.Cursor.find.Goals as goal
use Rattle.c_initializers.proofs.covering.Cursor.find.Goals.{else-k-self-via-then-k-self+else-self-k}
use Rattle.c_initializers.proofs.covering.Cursor.find.Goals.{else-k-self-via-else-k-self}

pub returns-then-self-k-clause-found : goal.returns-then-self-k-clause-found
returns-then-self-k-clause-found c =
    sym (found-here c.args.self.now.extents.now c.skip-k.result c.args.at _
    (c.skip-k.ensures.passed c.start.ensures.passed) c.if-k-self.true c.if-self-k.true
    (c.skip-k.ensures.ends _ c.if-k-self.true))

pub returns-else-k-self-clause-found : goal.returns-else-k-self-clause-found
returns-else-k-self-clause-found c =
    let o : c.args.self.now.ordered ≡ true = c.if-not-self.false in
    sym (found-none c.args.self.now.extents.now c.skip-k.result c.args.at (record { from = 0; to = 0 })
    (c.requires.ordered o) (c.skip-k.ensures.passed c.start.ensures.passed)
    (λ l. elim c.else-k-self.branch [
      | else-k-self-via-then-k-self+else-self-k w ↦ w.if-self-k.false
      | else-k-self-via-else-k-self w ↦ absurd (omega arith)
    ]))
