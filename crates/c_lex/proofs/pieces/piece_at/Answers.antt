use Rattle.std.proofs.Common.{◌≡◌, false, ◌&&◌, ◌||◌, refl, sym, ◌∙◌, arith}
use Rattle.ck_base.specs.Lexes.{Separates, Breaks, begins_skipped, begins_pack}
use Rattle.c_lex.proofs.Stands.{head_is, found_on_line}
use Rattle.c_lex.proofs.pieces.piece_at.Goals as goal
use Rattle.c_lex.proofs.pieces.piece_at.Goals.{then-first+in-Missing-directive_at, else-first}

pub returns-in-len1-up : goal.returns-in-len1-up
returns-in-len1-up c = Separates.blank _ _ (head_is c.args.bytes.now (omega arith))
    (sym c.is_blank.ensures ∙ c.if-is_blank.true)

pub returns-in-Whole : goal.returns-in-Whole
returns-in-Whole c = Separates.comment c.in-Whole.ensures

pub returns-in-Unclosed : goal.returns-in-Unclosed
returns-in-Unclosed c = Breaks.comment c.in-Unclosed.ensures.0 c.in-Unclosed.ensures.1

pub returns-in-Skipped : goal.returns-in-Skipped
returns-in-Skipped c = rw c.line_length.ensures (Separates.directive c.if-first.true c.in-Skipped.ensures)

pub returns-in-Pack : goal.returns-in-Pack
returns-in-Pack c = Breaks.pack c.if-first.true c.in-Pack.ensures

pub returns : goal.returns
returns c = found_on_line c.args.first c.args.bytes.now c.token_at.result no_directive c.token_at.ensures
  where
    no_directive : (c.args.first && (begins_skipped c.args.bytes.now || begins_pack c.args.bytes.now)) ≡ false
    no_directive = elim c.if-first.branch [
      | then-first+in-Missing-directive_at w ↦ rw w.if-first.true
          w.in-Missing-directive_at.ensures
      | else-first w ↦ rw w.if-first.false refl
    ]
