use Rattle.std.proofs.Common.{sym, ◌∙◌, arith}
use Rattle.std.proofs.lemmas.Bool.{false_from_ne_true}
use Rattle.c_lex.proofs.Tables.{never, left_out_fits}
use Rattle.c_lex.proofs.forms.is_left_out.Goals as goal

pub returns-in_default : goal.returns-in_default
returns-in_default c = sym (false_from_ne_true _ (λ among. omega (arith, (left_out_fits c.args.text.now among).0)))

pub returns-in_default-2 : goal.returns-in_default-2
returns-in_default-2 c =
    sym (false_from_ne_true _ (λ among. never _ (sym c.begins_left_out.ensures ∙ c.if-begins_left_out.false)
    (left_out_fits c.args.text.now among).1))
