use Rattle.std.proofs.Common.{◌∙◌, ap₂}
use Rattle.clap.specs.Words.{with_rule}
use Rattle.command_line.proofs.words.command.Goals as goal

pub returns : goal.returns
returns c =
    let mode = c.in_ok-arg.ensures.shape c.word.ensures.local ∙ ap₂ with_rule c.new.ensures.app c.word.ensures.rule in
    let file = c.in_ok-arg-2.ensures.shape c.word-2.ensures.local ∙ ap₂ with_rule mode c.word-2.ensures.rule in
    let steps = c.in_ok-arg-3.ensures.shape c.option.ensures.local ∙ ap₂ with_rule file c.option.ensures.rule in
    let turns = c.in_ok-arg-4.ensures.shape c.option-2.ensures.local ∙ ap₂ with_rule steps c.option-2.ensures.rule in
    let out = c.in_ok-arg-5.ensures.shape c.option-3.ensures.local ∙ ap₂ with_rule turns c.option-3.ensures.rule in
    let heap = c.in_ok-arg-6.ensures.shape c.option-4.ensures.local ∙ ap₂ with_rule out c.option-4.ensures.rule in
    c.in_ok-command.ensures.shape c.option-5.ensures.local ∙ ap₂ with_rule heap c.option-5.ensures.rule
