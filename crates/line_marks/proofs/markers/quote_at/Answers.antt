use Rattle.std.proofs.Common.{refl, sym, arith}
use Rattle.std.proofs.lemmas.Bool.{ne_eqb}
use Rattle.line_marks.proofs.Passing.{quote_passed}
use Rattle.line_marks.proofs.markers.quote_at.Goals as goal
use Rattle.line_marks.proofs.markers.quote_at.Goals.{then-escaped, else-escaped+else-b-eq34}

pub loop-i-preserved : goal.loop-i-preserved
loop-i-preserved c = elim c.if-escaped.branch [
  | then-escaped w ↦ omega (
    arith,
    c.loop-i.invariant,
    quote_passed c.loop-i.escaped c.if-escaped.escaped c.args.bytes.now
        c.loop-i.i (omega arith) (rw w.if-escaped.true refl) (rw w.if-escaped.true (sym w.escaped-is)),
  )
  | else-escaped+else-b-eq34 w ↦ omega (
    arith,
    c.loop-i.invariant,
    quote_passed c.loop-i.escaped c.if-escaped.escaped
        c.args.bytes.now c.loop-i.i (omega arith) (rw w.if-escaped.false (ne_eqb _ 34 w.if-b-eq34.false))
        (rw w.if-escaped.false (sym w.escaped-is)),
  )
]
