use Rattle.std.proofs.Common.{arith}
use Rattle.std.proofs.lemmas.List.{take_rest}
use Rattle.c_lex.proofs.Quotes.{quoted_found, quoted_none, quoted_other}
use Rattle.c_lex.proofs.forms.quoted_length.Goals as goal

pub returns-in-Some : goal.returns-in-Some
returns-in-Some c =
    let rest = take_rest c.args.bytes.now 1 in
    quoted_found c.args.quote c.args.bytes.now c.in-Some.n (omega arith) c.if-first-quote.true
    (rw rest at c.in-Some.ensures.within) (rw rest at c.in-Some.ensures.found)

pub returns-in-None : goal.returns-in-None
returns-in-None c = λ n within.
    quoted_none c.args.quote c.args.bytes.now
    (λ m. let unclosed = c.in-None.ensures.none m in rw (take_rest c.args.bytes.now 1) at unclosed) n

pub returns-in_default : goal.returns-in_default
returns-in_default c = λ n within. quoted_other c.args.quote c.args.bytes.now (λ some. absurd (omega arith)) n

pub returns-in_default-2 : goal.returns-in_default-2
returns-in_default-2 c = λ n within. quoted_other c.args.quote c.args.bytes.now (λ some. c.if-first-quote.false) n
