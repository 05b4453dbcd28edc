use Rattle.std.proofs.Common.{◌≡◌, ◌+◌, ◌-◌, take, drop, refl, ap, ◌∙◌, arith}
use Rattle.std.proofs.lemmas.List.{drop_more}
use Rattle.std.proofs.lemmas.Bool.{ne_eqb}
use Rattle.ck_base.specs.Tokens.{closes}
use Rattle.c_lex.proofs.Quotes.{closes-line_feed, closes-more}
use Rattle.c_lex.proofs.forms.closing_length.Goals as goal
use Rattle.c_lex.proofs.forms.closing_length.Goals.{then-escaped, else-escaped+else-b-quote}

pub returns-then-b-eq10-clause-none : goal.returns-then-b-eq10-clause-none
returns-then-b-eq10-clause-none c = λ n.
    c.loop-i.invariant n
    ∙ rw (drop_more c.args.bytes.now c.loop-i.i 0 (omega arith), c.if-b-eq10.true)
    (closes-line_feed c.args.quote c.loop-i.escaped _ (n - c.loop-i.i))

pub loop-i-preserved : goal.loop-i-preserved
loop-i-preserved c = λ n.
    let same : n - c.loop-i.i - 1 ≡ n - (c.loop-i.i + 1) = omega arith in
    c.loop-i.invariant n
    ∙ rw (drop_more c.args.bytes.now c.loop-i.i 0 (omega arith))
    (closes-more c.args.quote c.loop-i.escaped c.if-escaped.escaped _ _ (ne_eqb _ 10 c.if-b-eq10.false)
    (elim c.if-escaped.branch [
      | then-escaped w ↦ rw w.if-escaped.true refl
      | else-escaped+else-b-quote w ↦ rw
          (w.if-escaped.false) (ne_eqb _ _ w.if-b-quote.false)
    ])
    (elim c.if-escaped.branch [
      | then-escaped w ↦ rw w.if-escaped.true w.escaped-is
      | else-escaped+else-b-quote w ↦ rw
          (w.if-escaped.false) (w.escaped-is)
    ])
    (n - c.loop-i.i) ∙ ap (λ m. closes c.args.quote c.if-escaped.escaped
    (take m (drop (c.loop-i.i + 1) c.args.bytes.now))) same)
