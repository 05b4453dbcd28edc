use Rattle.std.proofs.Common.{ap, ◌∙◌}
use Rattle.rv_code.specs.declared.fields.Fields.{Fields}
use Rattle.rv_code.specs.Formats.{word_of}
use Rattle.rv_code.proofs.Fitting.{FitsWord-fields_of}
use Rattle.rv_code.proofs.Laws.{decode_of-encoded, same_word}
use Rattle.rv_code.proofs.code.encode.Goals as goal

pub word-requires : goal.word-requires
word-requires c = rw c.fields.ensures (FitsWord-fields_of c.args.i c.requires)

pub returns-clause-word : goal.returns-clause-word
returns-clause-word c = record {
  in_range = c.requires;
  word = c.word.ensures
      ∙ ap (λ (f : Fields). word_of f) c.fields.ensures;
}

pub returns-clause-only : goal.returns-clause-only
returns-clause-only c w h = same_word w c.word.result c.args.i h (returns-clause-word c)

pub returns-clause-decoded : goal.returns-clause-decoded
returns-clause-decoded c = decode_of-encoded c.word.result c.args.i (returns-clause-word c)
