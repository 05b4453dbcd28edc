use Rattle.std.proofs.Common.{ap, ◌∙◌, arith}
use Rattle.rv_code.specs.Decoding.{instr_at, decode_of}
use Rattle.rv_code.proofs.Laws.{decode_of-cases, decode_of-none}
use Rattle.rv_code.proofs.code.decode.Goals as goal

pub returns-clause-value : goal.returns-clause-value
unfolding decode_of
returns-clause-value c = c.instr.ensures ∙ ap instr_at c.of_word.ensures.value

pub returns-clause-some : goal.returns-clause-some
returns-clause-some c i = rw (returns-clause-value c) (decode_of-cases c.args.w i (omega arith))

pub returns-clause-none : goal.returns-clause-none
returns-clause-none c = rw (returns-clause-value c) (decode_of-none c.args.w (omega arith))
