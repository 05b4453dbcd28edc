use Rattle.std.proofs.Common.{arith}
use Rattle.purecap_abi.specs.Words.{most_words}
use Rattle.rv_words.proofs.MadeNumbers.{number_made}
use Rattle.rv_words.proofs.Lengths.{part_few, most_words-le, low_words, high_words}
use Rattle.rv_words.proofs.parts.number_part.Goals as goal

pub returns-clause-few : goal.returns-clause-few
returns-clause-few c =
    let a = part_few (most_words c.args.value) _ _ c.new-part.ensures.items c.in_ok-number.ensures.words in
    let b = most_words-le c.args.value in
    omega (arith, a, b)

pub returns-clause-low : goal.returns-clause-low
returns-clause-low c = λ h.
    let a = part_few (most_words c.args.value) _ _ c.new-part.ensures.items c.in_ok-number.ensures.words in
    let b = low_words c.args.value h in
    omega (arith, a, b)

pub returns-clause-high : goal.returns-clause-high
returns-clause-high c = λ h.
    let a = part_few (most_words c.args.value) _ _ c.new-part.ensures.items c.in_ok-number.ensures.words in
    let b = high_words c.args.value h in
    omega (arith, a, b)

pub returns-clause-makes : goal.returns-clause-makes
returns-clause-makes c = λ lt.
    number_made c.args.to c.args.value _ _ c.new-part.ensures.items lt c.in_ok-number.ensures.value
