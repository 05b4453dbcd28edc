use Rattle.std.proofs.Common.{sym, ◌∙◌}
use Rattle.command_modes.proofs.Puts.{own_said}
use Rattle.command_modes.proofs.message.line_of.Goals as goal

pub returns-in-Some : goal.returns-in-Some
returns-in-Some c =
    own_said c.args.answer c.in-Some.pos c.words_of-line.result.bytes c.end_at.new.text.bytes c.from.result
    (sym c.is_silent.ensures ∙ c.if-is_silent.false) (sym c.pos_of.ensures ∙ c.in-Some.is) c.words_of-line.ensures.bytes
    c.from.ensures c.end_at.ensures
