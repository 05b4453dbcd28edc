-- The rules that `clap` has for a word and an option.
use Rattle.std.specs.Prelude.{true, Some}
use Rattle.clap.specs.Words.{Rule, Text, new_rule}

-- a required word, by its place
abbrev pub word_rule : Text → Rule
word_rule id = record (new_rule id) { required = true }

-- an option with one value, which stands at most once
abbrev pub option_rule : Text → Rule
option_rule id = record (new_rule id) { long = Some id }
