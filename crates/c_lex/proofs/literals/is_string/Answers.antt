use Rattle.std.proofs.lemmas.List.{take_rest}
use Rattle.c_lex.proofs.Strings.{same_rest-plain, same_rest-more, string_end}
use Rattle.c_lex.proofs.literals.is_string.Goals as goal

pub loop-n-preserved : goal.loop-n-preserved
loop-n-preserved c =
    let plain = same_rest-plain c.plain_length.result c.split_at.result.0.now c.split_at.result.1.now
    c.loop-n.invariant c.plain_length.ensures.value c.split_at.ensures.front c.split_at.ensures.back in
    rw (take_rest c.split_at.result.1.now c.in-Some-character.n)
    (same_rest-more c.in-Some.rest.now c.split_at.result.1.now _ c.in-Some-character.n plain
    c.in-Some-character.ensures.value)

pub returns-in_default-character : goal.returns-in_default-character
returns-in_default-character c =
    let plain = same_rest-plain c.plain_length.result c.split_at.result.0.now c.split_at.result.1.now
    c.loop-n.invariant c.plain_length.ensures.value c.split_at.ensures.front c.split_at.ensures.back in
    string_end c.args.text.now c.in-Some.rest.now c.split_at.result.1.now c.is_empty.result c.in-Some.ensures.found
    plain c.in_default-character.ensures.value c.is_empty.ensures
