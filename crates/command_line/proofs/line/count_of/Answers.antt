use Rattle.std.proofs.Common.{◌≡◌, ◌∙◌, Ok, sym, ap, arith, decimal}
use Rattle.command_line.proofs.Counts.{count_read, differ}
use Rattle.command_line.proofs.line.count_of.Goals as goal

pub returns-in_default : goal.returns-in_default
returns-in_default c = λ n count.
    let read = sym c.in-Ok.is ∙ count_read c.args.word.now n c.parse.result c.parse.ensures.value.0 count in
    let same : c.in-Ok.n ≡ n = cc in
    differ c.format.result.now c.args.word.now (sym c.eq.ensures ∙ c.if-eq.false)
    (c.format.ensures.text ∙ ap decimal same ∙ sym count.is)

pub returns-in_default-2 : goal.returns-in_default-2
returns-in_default-2 c = λ n count.
    let read = sym c.in-Ok.is ∙ count_read c.args.word.now n c.parse.result c.parse.ensures.value.0 count in
    let same : c.in-Ok.n ≡ n = cc in
    let most = count.at_most in
    omega (arith, c.if-n-le64.false)

pub returns-in_default-3 : goal.returns-in_default-3
returns-in_default-3 c = λ n count.
    let read = sym c.in-Ok.is ∙ count_read c.args.word.now n c.parse.result c.parse.ensures.value.0 count in
    let same : c.in-Ok.n ≡ n = cc in
    let some = count.some in
    omega (arith, c.if-n-ge1.false)

pub returns-in_default-4 : goal.returns-in_default-4
returns-in_default-4 c = λ n count.
    let read = sym c.in_default.is ∙ count_read c.args.word.now n c.parse.result c.parse.ensures.value.0 count in
    cc
