use Rattle.std.proofs.Common.{sym, ◌∙◌}
use Rattle.c_passing.proofs.Numbering.{given_none, given_plainly, given_pointed, given_loose}
use Rattle.c_passing.proofs.types.given_at.Goals as goal
use Rattle.c_passing.proofs.types.given_at.Goals.{else-t-k-via-then-t-k+else-by_pointer, else-t-k-via-else-t-k}

pub returns-in-None : goal.returns-in-None
returns-in-None c = λ e. given_none c.args.types.now c.args.k c.args.c.now e (sym c.gives_of.ensures ∙ c.in-None.is)

pub returns-then-by_pointer : goal.returns-then-by_pointer
returns-then-by_pointer c =
    λ e. given_pointed c.args.types.now c.args.k c.args.c.now c.in-Some.t e
    (sym c.gives_of.ensures ∙ c.in-Some.is) c.if-t-k.true (sym c.by_pointer.ensures ∙ c.if-by_pointer.true)

pub returns-else-t-k : goal.returns-else-t-k
returns-else-t-k c = λ e.
    elim c.else-t-k.branch [
      | else-t-k-via-then-t-k+else-by_pointer w ↦ given_plainly c.args.types.now c.args.k c.args.c.now c.in-Some.t e
          (sym c.gives_of.ensures ∙ c.in-Some.is) w.if-t-k.true (sym w.by_pointer.ensures ∙ w.if-by_pointer.false)
      | else-t-k-via-else-t-k w ↦ given_loose c.args.types.now c.args.k c.args.c.now c.in-Some.t e
          (sym c.gives_of.ensures ∙ c.in-Some.is) w.if-t-k.false
    ]
