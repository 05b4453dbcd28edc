use Rattle.std.proofs.Common.{◌∙◌}
use Rattle.std.proofs.lemmas.List.{take_rest}
use Rattle.c_lex.proofs.Strings.{unescaped-plain, unescaped-value, all_unescaped}
use Rattle.c_lex.proofs.literals.append_values.Goals as goal

pub loop-value-preserved : goal.loop-value-preserved
loop-value-preserved c =
    let plain = unescaped-plain c.plain_length.result c.split_at.result.0.now c.split_at.result.1.now
    c.loop-value.invariant c.plain_length.ensures.value c.split_at.ensures.front c.split_at.ensures.back in
    let more = unescaped-value c.in-Some.value c.in-Some.n plain c.in-Some.ensures.value in
    rw (take_rest c.split_at.result.1.now c.in-Some.n) (rw (c.in_ok-push.ensures.items)
    (rw (c.in_ok-extend_from_slice.ensures.items) more))

pub returns-in_default-clause-ok : goal.returns-in_default-clause-ok
returns-in_default-clause-ok c = λ values are.
    let plain = unescaped-plain c.plain_length.result c.split_at.result.0.now c.split_at.result.1.now
    c.loop-value.invariant c.plain_length.ensures.value c.split_at.ensures.front c.split_at.ensures.back in
    c.in_ok-extend_from_slice.ensures.items ∙ all_unescaped plain c.in_default.ensures.value values are
