use Rattle.std.proofs.Common.{length, ap, sym, ◌∙◌, arith}
use Rattle.c_lex.proofs.Stands.{faulty, unclosed_quote, stray_byte}
use Rattle.c_lex.proofs.pieces.token_at.Goals as goal

pub returns-in-Some-fault_of : goal.returns-in-Some-fault_of
returns-in-Some-fault_of c =
    faulty c.args.bytes.now c.in-Some.kind c.in-Some.n c.in-Some-fault_of.code c.in-Some.ensures.found
    c.in-Some-fault_of.ensures

pub returns-in-None : goal.returns-in-None
returns-in-None c = unclosed_quote c.args.bytes.now (omega (arith, ap length c.requires.blank.2))
    (sym c.is_quote.ensures ∙ c.if-is_quote.true) c.in-None.ensures.none

pub returns-in-None-2 : goal.returns-in-None-2
returns-in-None-2 c = stray_byte c.args.bytes.now c.requires.blank
    (sym c.is_quote.ensures ∙ c.if-is_quote.false) c.in-None-2.ensures.none
