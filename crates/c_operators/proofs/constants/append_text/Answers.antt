use Rattle.std.proofs.Common.{ap, sym, ◌∙◌, ◌++◌}
use Rattle.std.proofs.lemmas.Result.{on_ok_weaker}
use Rattle.c_operators.proofs.Texts.{string_is}
use Rattle.c_operators.proofs.constants.append_text.Goals as goal

pub returns : goal.returns
returns c = on_ok_weaker c.unescape.result
    (λ h. h c.requires.0 c.requires.1
    ∙ ap (λ vs. c.args.into.now.items ++ vs) (sym (string_is c.args.text.now c.requires.0 c.requires.1)))
    c.unescape.ensures.ok
